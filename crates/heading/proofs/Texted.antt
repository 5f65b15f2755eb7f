-- Inner events of the right shape look as specs/Text.antt says: its parts are found from the front and from the end.
--     texted-some     they become something
--     texted-shape    and no others do
-- Assumes nothing.
use mathlib.Core.Path.{◌≡◌, refl, sym, ap, ◌∙◌, subst}
use mathlib.Core.Logic.{◌⊎◌, inl, inr, ⊎_elim}
use mathlib.Core.List.{List, [], ◌∷◌, ◌++◌, append-nil, append_assoc}
use Prim.Native.Nat.{ℕ}
use Rattle.record.specs.Event.{enter, exit}
use Rattle.record.specs.declared.event.Event.{Event}
use Rattle.heading.specs.Shape.{LeafName, Pairs, pair, Shape, bare as shaped-bare, spaced}
use Rattle.heading.specs.Shape.{none as no_pairs}
use Rattle.heading.specs.Text.{Blanks, none, blank, Before, bare, indented, DataOrRun, Ending, here, further, Behind, unclosed, closing, Texted, text, closed, empty}

-- pairs that end with Data or a `#` run, but for spaces and tabs behind it
record Trimmed (es : List Event) : Type 0 where
  pub kept : List Event
  pub behind : List Event
  pub last : ℕ
  pub to : ℕ
  pub whole : es ≡ kept ++ behind
  pub ending : Ending last to kept
  pub blanks : Blanks behind

-- one pair more in front
one_more : (name p q : ℕ) (es : List Event) → LeafName name → Blanks es ⊎ Trimmed es →
    Blanks (enter name p ∷ exit name q ∷ es) ⊎ Trimmed (enter name p ∷ exit name q ∷ es)
one_more name p q es (inl z) (inl b) =
    inr (record { kept = enter name p ∷ exit name q ∷ []; behind = es; last = name; to = q; whole = refl; ending = here (inl z); blanks = b })
one_more name p q es (inr (inl z)) (inl b) =
    inr (record { kept = enter name p ∷ exit name q ∷ []; behind = es; last = name; to = q; whole = refl; ending = here (inr z); blanks = b })
one_more name p q es (inr (inr z)) (inl b) = inl (rw z (blank b))
one_more name p q es n (inr r) =
    inr
    (record {
      kept = enter name p ∷ exit name q ∷ r.kept;
      behind = r.behind;
      last = r.last;
      to = r.to;
      whole = ap (λ (x : List Event). enter name p ∷ exit name q ∷ x) r.whole;
      ending = further n r.ending;
      blanks = r.blanks;
    })

from_end : {es : List Event} → Pairs es → Blanks es ⊎ Trimmed es
from_end no_pairs = inl none
from_end (pair {name} {p} {q} {es} n l) = one_more name p q es n (from_end l)

-- pairs whose last is called `last` and left at `to`; and the others
pub record Ended (ws : List Event) (last to : ℕ) : Type 0 where
  pub rest : List Event
  pub from : ℕ
  pub whole : ws ≡ rest ++ (enter last from ∷ exit last to ∷ [])
  pub named : DataOrRun last

pub ended : {last to : ℕ} {ws : List Event} → Ending last to ws → Ended ws last to
ended (here {p} w) = record { rest = []; from = p; whole = refl; named = w }
ended (further {name} {p} {q} {es} n e) =
    let u = ended e in
    record {
      rest = enter name p ∷ exit name q ∷ u.rest;
      from = u.from;
      whole = ap (λ (x : List Event). enter name p ∷ exit name q ∷ x) u.whole;
      named = u.named;
    }

rest_pairs : {last to : ℕ} {ws : List Event} (e : Ending last to ws) → Pairs (ended e).rest
unfolding ended
rest_pairs (here w) = no_pairs
rest_pairs (further n e) = pair n (rest_pairs e)

-- any of the three names, of one of two
any_of : {name : ℕ} → DataOrRun name → LeafName name
any_of (inl z) = inl z
any_of (inr z) = inr (inl z)

-- the parts are leaf pairs
blanks_pairs : {es : List Event} → Blanks es → Pairs es
blanks_pairs none = no_pairs
blanks_pairs (blank b) = pair (inr (inr refl)) (blanks_pairs b)

pub before_pairs : {es : List Event} → Before es → Pairs es
before_pairs (bare b) = pair (inr (inl refl)) (blanks_pairs b)
before_pairs (indented b) = pair (inr (inr refl)) (pair (inr (inl refl)) (blanks_pairs b))

pub ending_pairs : {last to : ℕ} {es : List Event} → Ending last to es → Pairs es
ending_pairs (here w) = pair (any_of w) no_pairs
ending_pairs (further n e) = pair n (ending_pairs e)

pairs_then : {xs ys : List Event} → Pairs xs → Pairs ys → Pairs (xs ++ ys)
pairs_then no_pairs q = q
pairs_then (pair n p) q = pair n (pairs_then p q)

pub behind_pairs : {last : ℕ} {es : List Event} → Behind last es → Pairs es
behind_pairs (unclosed z b) = blanks_pairs b
behind_pairs (closing last p q es fs a b) = pairs_then (blanks_pairs a) (pair (inr (inl refl)) (blanks_pairs b))

-- what some inner events become
abbrev Becomes : List Event → Type 0
Becomes inner = (r : List Event) × Texted inner r

becomes : {inner inner' : List Event} → inner ≡ inner' → Becomes inner → Becomes inner'
becomes e b = subst Becomes e b

-- behind what stands before a text, a Data or `#` run and other pairs
module _ (xs : List Event) (before : Before xs) (name p q : ℕ) (w : DataOrRun name) where
  -- a closing run behind pairs that are left
  closes : (rest us zs : List Event) (from to : ℕ) → rest ≡ (us ++ (enter 12 from ∷ exit 12 to ∷ [])) ++ zs → Blanks zs → Blanks us ⊎ Trimmed us →
      Becomes (xs ++ (enter name p ∷ exit name q ∷ rest))
  closes rest us zs from to e b (inl u) =
      becomes (ap (λ (x : List Event). xs ++ (enter name p ∷ exit name q ∷ x)) (sym (e ∙ append_assoc us (enter 12 from ∷ exit 12 to ∷ []) zs)))
      (_, text xs [] (us ++ (enter 12 from ∷ exit 12 to ∷ zs)) name p q name q before w (here w) (closing name from to us zs u b))
  closes rest us zs from to e b (inr r) =
      let tail : List Event = enter 12 from ∷ exit 12 to ∷ zs in
      let k : rest ≡ r.kept ++ (r.behind ++ tail) =
      e ∙ append_assoc us (enter 12 from ∷ exit 12 to ∷ []) zs ∙ ap (λ (x : List Event). x ++ tail) r.whole ∙ append_assoc r.kept r.behind tail
      in
      becomes (ap (λ (x : List Event). xs ++ (enter name p ∷ exit name q ∷ x)) (sym k))
      (_, text xs r.kept (r.behind ++ tail) name p q r.last r.to before w (further (any_of w) r.ending) (closing r.last from to r.behind zs r.blanks b))

  -- spaces and tabs alone behind it: it is the text, or the closing run
  alone : (rest : List Event) → Blanks rest → DataOrRun name → Becomes (xs ++ (enter name p ∷ exit name q ∷ rest))
  alone rest b (inl z) = (_, text xs [] rest name p q name q before w (here w) (unclosed z b))
  alone rest b (inr z) = becomes (ap (λ (n : ℕ). xs ++ (enter n p ∷ exit n q ∷ rest)) (sym z)) (_, closed xs rest p q before b)

  -- more of them behind it: the last ends the text, or is the closing run
  more_behind : (rest : List Event) (r : Trimmed rest) → DataOrRun r.last → Becomes (xs ++ (enter name p ∷ exit name q ∷ rest))
  more_behind rest r (inl z) =
      becomes (ap (λ (x : List Event). xs ++ (enter name p ∷ exit name q ∷ x)) (sym r.whole))
      (_, text xs r.kept r.behind name p q r.last r.to before w (further (any_of w) r.ending) (unclosed z r.blanks))
  more_behind rest r (inr z) =
      let u = ended r.ending in
      let e : rest ≡ (u.rest ++ (enter 12 u.from ∷ exit 12 r.to ∷ [])) ++ r.behind =
      r.whole
      ∙ ap (λ (x : List Event). x ++ r.behind) u.whole
      ∙ ap (λ (n : ℕ). (u.rest ++ (enter n u.from ∷ exit n r.to ∷ [])) ++ r.behind) z
      in
      closes rest u.rest r.behind u.from r.to e r.blanks (from_end (rest_pairs r.ending))

  from_first : (rest : List Event) → Pairs rest → Becomes (xs ++ (enter name p ∷ exit name q ∷ rest))
  from_first rest l = ⊎_elim (λ b. alone rest b w) (λ r. more_behind rest r (ended r.ending).named) (from_end l)

-- pairs from their front: spaces and tabs, and then one of the others or nothing
blanks_then : {xs ys : List Event} → Blanks xs → Blanks ys → Blanks (xs ++ ys)
blanks_then none b = b
blanks_then (blank a) b = blank (blanks_then a b)

before_blanks : {xs ys : List Event} → Before xs → Blanks ys → Before (xs ++ ys)
before_blanks (bare a) b = bare (blanks_then a b)
before_blanks (indented a) b = indented (blanks_then a b)

behind_opening : (xs : List Event) → Before xs → {rest : List Event} → Pairs rest → Becomes (xs ++ rest)
behind_opening xs before no_pairs = becomes (sym (append-nil xs)) (_, empty xs before)
behind_opening xs before (pair {name} {p} {q} {es} (inl z) l) = from_first xs before name p q (inl z) es l
behind_opening xs before (pair {name} {p} {q} {es} (inr (inl z)) l) = from_first xs before name p q (inr z) es l
behind_opening xs before (pair {name} {p} {q} {es} (inr (inr z)) l) =
    becomes
    (append_assoc xs (enter 14 p ∷ exit 14 q ∷ []) es ∙ ap (λ (n : ℕ). xs ++ (enter n p ∷ exit n q ∷ es)) (sym z))
    (behind_opening (xs ++ (enter 14 p ∷ exit 14 q ∷ [])) (before_blanks before (blank none)) l)

pub texted_some : {inner : List Event} → Shape inner → (r : List Event) × Texted inner r
texted_some (shaped-bare {p} {q} {es} l) = behind_opening (enter 12 p ∷ exit 12 q ∷ []) (bare none) l
texted_some (spaced {p} {q} {p'} {q'} {es} l) = behind_opening (enter 14 p ∷ exit 14 q ∷ enter 12 p' ∷ exit 12 q' ∷ []) (indented none) l

-- and what becomes something has the right shape
before_shape : {xs ys : List Event} → Before xs → Pairs ys → Shape (xs ++ ys)
before_shape (bare b) l = shaped-bare (pairs_then (blanks_pairs b) l)
before_shape (indented b) l = spaced (pairs_then (blanks_pairs b) l)

pub texted_shape : {inner result : List Event} → Texted inner result → Shape inner
texted_shape (text xs es zs name from q last to b w e z) = before_shape b (pairs_then (ending_pairs e) (behind_pairs z))
texted_shape (closed xs zs p q b z) = before_shape b (pair (inr (inl refl)) (blanks_pairs z))
texted_shape (empty xs b) = subst Shape (append-nil xs) (before_shape b no_pairs)
