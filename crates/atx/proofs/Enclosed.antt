-- A heading's bytes by what §4.2 takes off them (specs/Content.antt): the indentation and the opening sequence, which Begun has; and, in what
-- follows, spaces and tabs, the content, and what stands behind it, which Rest has.
-- Assumes nothing.
use mathlib.Core.Path.{◌≡◌, refl, sym, ap, subst, ◌∙◌}
use mathlib.Core.Bool.{Bool, true, false}
use mathlib.Core.Logic.{◌⊎◌, inl, inr}
use mathlib.Core.List.{List, [], ◌∷◌, ◌++◌, reverse, append-nil, append_assoc}
use Prim.Native.Nat.{ℕ}
use lib.ListN.{drop}
use Rattle.record.specs.Choice.{choose}
use Rattle.record.proofs.Bools.{clash, and_right}
use Rattle.scan.specs.Run.{or, space_or_tab, filled, hash, first, blanks}
use Rattle.scan.specs.Columns.{indentation}
use Rattle.scan.proofs.ByteKinds.{filled_otherwise, blank_filled, unfilled_no_hash}
use Rattle.atx.specs.Heading.{broken_off, opening, is_heading}
use Rattle.atx.specs.Content.{strip_front, strip_end, behind_opening, without_closing}
use Rattle.atx.proofs.Covering.{heading_opening, heading_hash, indent_blanks}
use Rattle.atx.proofs.Stripped.{not_empty, reverse_none, All, none, more, Stops, end, at, EndOff, front_stripped, end_stripped}
use Rattle.atx.proofs.Stripped.{all_reverse, all_ends, all_others, stops_as, stops_first, first_stops, ends_append, end_off}

-- how a heading begins
pub record Begun (l : List ℕ) : Type 0 where
  pub indent : List ℕ
  pub sign : ℕ
  pub signs : List ℕ
  pub parts : l ≡ indent ++ (sign ∷ (signs ++ behind_opening l))
  pub blank : All space_or_tab indent
  pub hashes : All hash (sign ∷ signs)
  pub broken : Stops filled (behind_opening l)

breaks : (l : List ℕ) → broken_off l ≡ true → Stops filled l
unfolding broken_off
breaks [] e = end
breaks (b ∷ l) e = at (blank_filled b e)

pub begun : (options column : ℕ) (l : List ℕ) → is_heading l options column ≡ true → Begun l
unfolding opening behind_opening strip_front blanks hash
begun options column l t =
    let m : List ℕ = strip_front space_or_tab l in
    let n : List ℕ = drop (indentation options column l).bytes l in
    let f : hash (first n) ≡ true = heading_hash options column l t in
    let same : m ≡ n = ap (λ (k : ℕ). drop k l) (indent_blanks options column l t) in
    let i = front_stripped space_or_tab l in
    let h = front_stripped hash m in
    go i.off i.whole i.all h.whole h.all h.stops (ap (λ (x : List ℕ). hash (first x)) same ∙ f)
    (subst (λ (x : List ℕ). Stops filled (strip_front hash x)) (sym same) (breaks _ (and_right _ _ (and_right _ _ (heading_opening options column l t)))))
  where
    go : (i : List ℕ) {m h : List ℕ} → l ≡ i ++ m → All space_or_tab i → m ≡ h ++ behind_opening l → All hash h → Stops hash (behind_opening l) →
        hash (first m) ≡ true → Stops filled (behind_opening l) → Begun l
    go i w p v none s f b = absurd (clash f (ap (λ (x : List ℕ). hash (first x)) v ∙ stops_first refl s))
    go i w p v (more {b = x} {l = h} e q) s f b =
        record { indent = i; sign = x; signs = h; parts = w ∙ ap (λ (x : List ℕ). i ++ x) v; blank = p; hashes = more e q; broken = b }

-- a closing sequence behind spaces or tabs, and spaces and tabs behind it
pub data Closing : List ℕ → Type 0 where
  closed : {b h : ℕ} {s r t : List ℕ} → All space_or_tab (b ∷ s) → All hash (h ∷ r) → All space_or_tab t → Closing (b ∷ (s ++ (h ∷ (r ++ t))))

closing_of : {s r t : List ℕ} → All space_or_tab s → All hash r → All space_or_tab t → (s ≡ [] → ⊥) → (r ≡ [] → ⊥) → Closing (s ++ (r ++ t))
closing_of none q o n k = absurd (n refl)
closing_of (more d p) none o n k = absurd (k refl)
closing_of (more d p) (more e q) o n k = closed (more d p) (more e q) o

-- what is taken off behind the content, where `ahead` is before it: spaces and tabs, and then a closing sequence is not at the end of `ahead`; or a
-- closing sequence
abbrev pub TakenOff : List ℕ → List ℕ → Type 0
TakenOff ahead behind = (All space_or_tab behind × Stops space_or_tab (reverse (strip_end hash ahead))) ⊎ Closing behind

-- what follows the opening sequence: spaces and tabs, the content c, and what is behind it
pub record Rest (l c : List ℕ) : Type 0 where
  pub off : List ℕ
  pub behind : List ℕ
  pub parts : l ≡ (off ++ c) ++ behind
  pub blank : All space_or_tab off
  pub begins : Stops space_or_tab c
  pub ends : Stops space_or_tab (reverse (off ++ c))
  pub taken : TakenOff (off ++ c) behind

trimmed : (l m behind : List ℕ) → l ≡ strip_end space_or_tab m ++ behind → TakenOff (strip_end space_or_tab m) behind →
    Rest l (strip_front space_or_tab (strip_end space_or_tab m))
trimmed l m behind w d =
    let f = front_stripped space_or_tab (strip_end space_or_tab m) in
    record {
      off = f.off;
      behind = behind;
      parts = w ∙ ap (λ (x : List ℕ). x ++ behind) f.whole;
      blank = f.all;
      begins = f.stops;
      ends = subst (λ (x : List ℕ). Stops space_or_tab (reverse x)) f.whole (end_stripped space_or_tab m).stops;
      taken = subst (λ (x : List ℕ). TakenOff x behind) f.whole d;
    }

none_off : {kind : ℕ → Bool} {l kept : List ℕ} (s : EndOff kind l kept) → s.off ≡ [] → l ≡ kept
none_off {kept = kept} s e = s.whole ∙ ap (λ (x : List ℕ). kept ++ x) e ∙ append-nil kept

-- what ends with no space or tab does not end with one
no_blank_end : (a b : List ℕ) → Stops space_or_tab (reverse a) → a ≡ b → space_or_tab (first (reverse b)) ≡ true → ⊥
unfolding space_or_tab or
no_blank_end a b s q e = clash (ap (λ (x : List ℕ). space_or_tab (first (reverse x))) q ∙ e) (stops_first refl s)

pub rest : (l : List ℕ) → Rest l (strip_front space_or_tab (strip_end space_or_tab (without_closing l)))
unfolding without_closing choose
rest l = go (space_or_tab (first (reverse ahead))) refl
  where
    inside : List ℕ
    inside = strip_end space_or_tab l

    ahead : List ℕ
    ahead = strip_end hash inside

    go : (z : Bool) → space_or_tab (first (reverse ahead)) ≡ z → Rest l (strip_front space_or_tab (strip_end space_or_tab (choose z ahead l)))
    go true e =
        let i = end_stripped space_or_tab l in
        let h = end_stripped hash inside in
        let t = end_stripped space_or_tab ahead in
        trimmed l ahead (t.off ++ (h.off ++ i.off))
        (i.whole ∙ ap (λ (x : List ℕ). x ++ i.off) (h.whole ∙ ap (λ (x : List ℕ). x ++ h.off) t.whole) ∙ simp append_assoc)
        (inr
        (closing_of t.all h.all i.all (λ q. no_blank_end (strip_end space_or_tab ahead) ahead t.stops (sym (none_off t q)) e)
        (λ q. no_blank_end inside ahead i.stops (none_off h q) e)))
    go false e = let t = end_stripped space_or_tab l in trimmed l l t.off t.whole (inl (t.all, first_stops _ e))

-- without content all of it is what is taken off
pub only_behind : {l c : List ℕ} (k : Rest l c) → c ≡ [] → l ≡ k.behind
only_behind {l} {c} k e =
    let w : k.off ++ c ≡ k.off = ap (λ (x : List ℕ). k.off ++ x) e ∙ append-nil k.off in
    k.parts ∙ ap (λ (x : List ℕ). x ++ k.behind) (w ∙ all_ends k.blank (rw w at k.ends))

-- what begins with no byte of either kind is nothing
pub neither_begins : {l : List ℕ} → Stops filled l → Stops space_or_tab l → l ≡ []
neither_begins end t = refl
neither_begins (at e) (at f) = absurd (clash (filled_otherwise _ f) e)

-- content that ends with `#`, a space or tab before them, would have lost them as a closing sequence
pub none_left : {b h : ℕ} {s r c : List ℕ} → All space_or_tab (b ∷ s) → (a : List ℕ) → c ≡ a ++ (h ∷ r) → All hash (h ∷ r) → Stops filled (reverse a) →
    Stops space_or_tab (reverse (strip_end hash ((b ∷ s) ++ c))) → ⊥
none_left {b} {h} {s} {r} {c} q a w p k e =
    let u : Stops filled (reverse ((b ∷ s) ++ a)) = ends_append (b ∷ s) a k (λ z. all_others blank_filled (all_reverse q)) in
    let v : strip_end hash ((b ∷ s) ++ c) ≡ (b ∷ s) ++ a =
    ap (λ (x : List ℕ). strip_end hash ((b ∷ s) ++ x)) w
    ∙ ap (strip_end hash) (sym (append_assoc (b ∷ s) a (h ∷ r)))
    ∙ end_off p (stops_as unfilled_no_hash u)
    in
    not_empty (reverse_none (b ∷ (s ++ a)) (neither_begins u (rw v at e)))
