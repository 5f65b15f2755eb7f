-- The search for a text finds what specs/Text.antt says: part by part it is computed where the text begins and where it ends.
--     said-so    what is said of inner events is what the search makes of them
--     texted     and of inner events of the right shape something is said
-- Assumes nothing.
use mathlib.Core.Path.{◌≡◌, refl, sym, ap, ◌∙◌, subst}
use mathlib.Core.Bool.{true}
use mathlib.Core.Logic.{inl, inr}
use mathlib.Core.List.{List, [], ◌∷◌, ◌++◌, reverse, reverse-append, append-nil, append_assoc}
use Prim.Native.Nat.{ℕ, ◌+◌, ◌-◌, ◌≤◌}
use native.Mathlib.Omega.{arith}
use lib.ListN.{length, take, drop, length-append}
use lib.Seq.{take-append_seam, drop-append_seam, drop-append-add, get_or-append_seam, get_or-append-add, take_all}
use borrow.Author.Tests.{eq-eqb, ne_eqb}
use Rattle.record.specs.Choice.{choose}
use Rattle.record.specs.Event.{event, enter, exit}
use Rattle.record.specs.Stack.{nth}
use Rattle.record.specs.declared.event.Event.{Event}
use Rattle.heading.specs.Headings.{before_first, through_last, starts_with, shaped, through_opening, is_data_or_run, before_text, to_last, before_closing, without_closing, text_events, through_text, text_round, with_text}
use Rattle.heading.specs.Text.{Blanks, none, blank, Before, bare, indented, DataOrRun, Behind, unclosed, closing, Texted, text, closed, empty}
use Rattle.heading.proofs.Seeking.{before_here, through_last_lem}
use Rattle.heading.proofs.Leaves.{before_past, through_past}
use Rattle.heading.proofs.Offence.{shape_of}
use Rattle.heading.proofs.Texted.{Ended, ended, texted_some}

-- an event of Data or of a `#` run is one, whether entered or left
data_or_run_is : (kind name place : ℕ) → DataOrRun name → is_data_or_run (event kind name place) ≡ true
unfolding is_data_or_run choose
data_or_run_is kind name place (inl z) = rw z
data_or_run_is kind name place (inr z) = rw z

-- spaces and tabs have none
none_in_blanks : {es : List Event} → Blanks es → length es ≤ before_first is_data_or_run es
unfolding before_first is_data_or_run choose
none_in_blanks none = omega arith
none_in_blanks (blank b) = omega (arith, none_in_blanks b)

-- events that begin with one, or none at all
data Begins : List Event → Type 0 where
  nothing : Begins []
  begins : {name p : ℕ} {es : List Event} → DataOrRun name → Begins (enter name p ∷ es)

begins_here : {ys : List Event} → Begins ys → before_first is_data_or_run ys ≡ 0
unfolding before_first
begins_here nothing = refl
begins_here (begins {name} {p} {es} w) = before_here is_data_or_run (enter name p) es (data_or_run_is 0 name p w)

-- where a text begins
before_is : (xs ys : List Event) → Before xs → Begins ys → before_text (xs ++ ys) ≡ length xs
unfolding before_text through_opening starts_with choose
before_is xs ys (bare {p} {q} {es} b) y = omega (arith, before_past is_data_or_run es ys (none_in_blanks b), none_in_blanks b, begins_here y)
before_is xs ys (indented {p} {q} {p'} {q'} {es} b) y = omega (arith, before_past is_data_or_run es ys (none_in_blanks b), none_in_blanks b, begins_here y)

-- events up to one, which is the last, and then spaces and tabs
to_last_lem : (us zs : List Event) (e : Event) → is_data_or_run e ≡ true → Blanks zs → to_last ((us ++ (e ∷ [])) ++ zs) ≡ us ++ (e ∷ [])
unfolding to_last choose
to_last_lem us zs e w b =
    let n : through_last is_data_or_run ((us ++ (e ∷ [])) ++ zs) ≡ length (us ++ (e ∷ [])) =
    through_past is_data_or_run (us ++ (e ∷ [])) zs (none_in_blanks b) ∙ through_last_lem is_data_or_run us e ∙ rw w (omega (arith, length-append us (e ∷ [])))
    in
    ap (λ (k : ℕ). take k ((us ++ (e ∷ [])) ++ zs)) n ∙ take-append_seam (us ++ (e ∷ [])) zs

-- pairs that end with one
module _ (ws : List Event) (last to : ℕ) (e : Ended ws last to) where
  split_last : ws ≡ (e.rest ++ (enter last e.from ∷ [])) ++ (exit last to ∷ [])
  split_last = e.whole ∙ sym (append_assoc e.rest (enter last e.from ∷ []) (exit last to ∷ []))

  -- spaces and tabs behind them stay out
  to_ended : (zs : List Event) → Blanks zs → to_last (ws ++ zs) ≡ ws
  to_ended zs b =
      ap (λ (x : List Event). to_last (x ++ zs)) split_last
      ∙ to_last_lem (e.rest ++ (enter last e.from ∷ [])) zs (exit last to) (data_or_run_is 1 last to e.named) b
      ∙ sym split_last

  backward : reverse ws ≡ exit last to ∷ enter last e.from ∷ reverse e.rest
  backward = ap reverse e.whole ∙ reverse-append e.rest (enter last e.from ∷ exit last to ∷ [])

  ended_length : length ws ≡ length e.rest + 2
  ended_length = ap length e.whole ∙ length-append e.rest (enter last e.from ∷ exit last to ∷ [])

  -- Data closes nothing, and a `#` run does
  data_stays : last ≡ 0 → without_closing ws ≡ ws
  unfolding without_closing before_closing starts_with choose
  data_stays z =
      let k : before_closing ws ≡ length ws = rw (backward, z) in
      ap (λ (n : ℕ). take n ws) k ∙ take_all (length ws) ws (omega arith)

  closing_goes : last ≡ 12 → without_closing ws ≡ e.rest
  unfolding without_closing before_closing starts_with choose
  closing_goes z =
      let k : before_closing ws ≡ length ws - 2 = rw (backward, z) in
      let n : before_closing ws ≡ length e.rest = omega (arith, k, ended_length) in
      ap (λ (m : ℕ). take m ws) n ∙ ap (take (length e.rest)) e.whole ∙ take-append_seam e.rest (enter last e.from ∷ exit last to ∷ [])

-- a `#` run behind some pairs
abbrev closing_end : (us : List Event) (p q : ℕ) → Ended (us ++ (enter 12 p ∷ exit 12 q ∷ [])) 12 q
closing_end us p q = record { rest = us; from = p; whole = refl; named = inr refl }

-- what is left of a text's events and of what stands behind them
text_left : (ws zs : List Event) (last to : ℕ) → Ended ws last to → Behind last zs → to_last (without_closing (to_last (ws ++ zs))) ≡ ws
text_left ws zs last to e (unclosed z b) =
    ap (λ (x : List Event). to_last (without_closing x)) (to_ended ws last to e zs b)
    ∙ ap to_last (data_stays ws last to e z ∙ sym (append-nil ws))
    ∙ to_ended ws last to e [] none
text_left ws zs last to e (closing _ p q es fs a b) =
    let c = closing_end (ws ++ es) p q in
    let k : ws ++ (es ++ (enter 12 p ∷ exit 12 q ∷ fs)) ≡ ((ws ++ es) ++ (enter 12 p ∷ exit 12 q ∷ [])) ++ fs =
    sym (append_assoc ws es (enter 12 p ∷ exit 12 q ∷ fs)) ∙ sym (append_assoc (ws ++ es) (enter 12 p ∷ exit 12 q ∷ []) fs)
    in
    ap (λ (x : List Event). to_last (without_closing (to_last x))) k
    ∙ ap (λ (x : List Event). to_last (without_closing x)) (to_ended ((ws ++ es) ++ (enter 12 p ∷ exit 12 q ∷ [])) 12 q c fs b)
    ∙ ap to_last (closing_goes ((ws ++ es) ++ (enter 12 p ∷ exit 12 q ∷ [])) 12 q c refl)
    ∙ to_ended ws last to e es a

-- the text of inner events that are cut behind what stands before it
text_is : (xs ys ws : List Event) → before_text (xs ++ ys) ≡ length xs → to_last (without_closing (to_last ys)) ≡ ws →
    (text_events (xs ++ ys) ≡ ws) × (through_text (xs ++ ys) ≡ length xs + length ws)
unfolding text_events through_text
text_is xs ys ws b w =
    let t : text_events (xs ++ ys) ≡ ws =
    ap (λ (n : ℕ). to_last (without_closing (to_last (drop n (xs ++ ys))))) b ∙ ap (λ (x : List Event). to_last (without_closing (to_last x))) (drop-append_seam xs ys) ∙ w
    in
    (t, omega (arith, b, ap length t))

-- no text
unchanged : (xs ys : List Event) → before_text (xs ++ ys) ≡ length xs → to_last (without_closing (to_last ys)) ≡ [] → xs ++ ys ≡ with_text (xs ++ ys)
unfolding with_text choose
unchanged xs ys b w =
    let t = text_is xs ys [] b w in
    let n : length xs + length {A = Event} [] ≡ length xs = omega arith in
    rw (eq-eqb (before_text (xs ++ ys)) (through_text (xs ++ ys)) (b ∙ sym (t.1 ∙ n)))

-- a text
rounded : (xs ws zs : List Event) (first : Event) (onward : List Event) (last to : ℕ) → ws ≡ first ∷ onward → Ended ws last to →
    before_text (xs ++ (ws ++ zs)) ≡ length xs → to_last (without_closing (to_last (ws ++ zs))) ≡ ws →
    xs ++ (text_round first.place to ++ zs) ≡ with_text (xs ++ (ws ++ zs))
unfolding with_text choose
rounded xs ws zs first onward last to f e b w =
    let inner : List Event = xs ++ (ws ++ zs) in
    let t : through_text inner ≡ length xs + length ws = (text_is xs (ws ++ zs) ws b w).1 in
    let long : length ws ≡ length e.rest + 2 = ended_length ws last to e in
    let ne : before_text inner ≡ through_text inner → ⊥ = λ q. omega (arith, b, t, long, q) in
    let front : take (before_text inner) inner ≡ xs = ap (λ (n : ℕ). take n inner) b ∙ take-append_seam xs (ws ++ zs) in
    let back : drop (through_text inner) inner ≡ zs = ap (λ (n : ℕ). drop n inner) t ∙ drop-append-add xs (ws ++ zs) (length ws) ∙ drop-append_seam ws zs in
    let begin : nth inner (before_text inner) ≡ first =
    ap (nth inner) b ∙ ap (λ (x : List Event). nth (xs ++ (x ++ zs)) (length xs)) f ∙ get_or-append_seam xs first (onward ++ zs) _
    in
    let k : through_text inner - 1 ≡ length xs + (length e.rest + 1) = omega (arith, t, long) in
    let end : nth inner (through_text inner - 1) ≡ exit last to =
    ap (nth inner) k
    ∙ get_or-append-add xs (ws ++ zs) (length e.rest + 1) _
    ∙ ap (λ (x : List Event). nth (x ++ zs) (length e.rest + 1)) e.whole
    ∙ ap (λ (x : List Event). nth x (length e.rest + 1)) (append_assoc e.rest (enter last e.from ∷ exit last to ∷ []) zs)
    ∙ get_or-append-add e.rest (enter last e.from ∷ exit last to ∷ zs) 1 _
    in
    sym (rw (ne_eqb (before_text inner) (through_text inner) ne, front, back, begin, end))

-- nothing is left of a closing run alone, nor of nothing
alone_goes : (zs : List Event) (p q : ℕ) → Blanks zs → to_last (without_closing (to_last (enter 12 p ∷ exit 12 q ∷ zs))) ≡ []
unfolding to_last through_last before_first
alone_goes zs p q b =
    let c = closing_end [] p q in
    ap (λ (x : List Event). to_last (without_closing x)) (to_ended (enter 12 p ∷ exit 12 q ∷ []) 12 q c zs b)
    ∙ ap to_last (closing_goes (enter 12 p ∷ exit 12 q ∷ []) 12 q c refl)

none_left : to_last (without_closing (to_last [])) ≡ []
unfolding to_last without_closing through_last before_closing starts_with before_first choose
none_left = refl

pub said_so : (inner result : List Event) → Texted inner result → result ≡ with_text inner
said_so inner result (text xs es zs name from q last to b w e z) =
    let ws : List Event = enter name from ∷ exit name q ∷ es in
    rounded xs ws zs (enter name from) (exit name q ∷ es) last to refl (ended e) (before_is xs (ws ++ zs) b (begins w)) (text_left ws zs last to (ended e) z)
said_so inner result (closed xs zs p q b z) =
    unchanged xs (enter 12 p ∷ exit 12 q ∷ zs) (before_is xs (enter 12 p ∷ exit 12 q ∷ zs) b (begins (inr refl))) (alone_goes zs p q z)
said_so inner result (empty xs b) =
    let n = before_is xs [] b nothing in
    sym (append-nil xs) ∙ unchanged xs [] n none_left ∙ ap with_text (append-nil xs)

pub texted : (inner : List Event) → shaped inner ≡ true → Texted inner (with_text inner)
texted inner q =
    let t = texted_some (shape_of inner q) in
    subst (Texted inner) (said_so inner t.0 t.1) t.1
