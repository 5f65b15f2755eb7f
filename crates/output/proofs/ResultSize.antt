-- The result size. Each run's events go and in their place stand four for each piece and two for a leftover; each group has two pieces. By
-- induction on the record, with the closers and the openers of the groups counted run by run.
-- Assumes nothing.
use Prim.Native.Nat.{ℕ, zero, suc, ◌+◌, ◌-◌, ◌*◌, ◌≤◌, ◌<◌}
use mathlib.Core.Path.{◌≡◌, refl, ◌∙◌}
use mathlib.Core.Bool.{Bool, true, false}
use mathlib.Core.List.{List, [], ◌∷◌}
use native.Mathlib.Omega.{arith}
use native.Mathlib.Numerals.{add-one}
use lib.Dec.{eqb}
use lib.ListN.{length, drop, length-append, length-map}
use borrow.Author.Tests.{eqb-true, eqb-false, ne_eqb}
use Rattle.record.specs.Choice.{choose}
use Rattle.record.specs.Stack.{after}
use Rattle.record.specs.declared.event.Event.{Event}
use Rattle.runs.specs.Runs.{Run, run_of, runs_from, runs_of}
use Rattle.runs.specs.Plain.{Group}
use Rattle.runs.specs.Pieces.{Piece, standing, closings, openings, remains, outcome}
use Rattle.runs.specs.Output.{closing_events, opening_events, leftover_events, run_events, replaced, output, emptied, result_size}
use Rattle.groups.proofs.Matches.{outcome_matched}
use Rattle.output.specs.Theorems.{SizeOfOutput, EmptiedFew, ManyGroupsTooLong}
use Rattle.output.proofs.Cut.{Parts, nothing, event, sequence, parts}
use Rattle.output.proofs.Proper.{Proper, none, more, matches_proper}
use Rattle.output.proofs.Aligned.{runs_event, runs_run, replaced_event, replaced_run, first_left}

-- how many of some groups have the run q on one side
one : ℕ → ℕ → ℕ
one a q = choose (eqb a q) 1 0

count : (Group → ℕ) → List Group → ℕ → ℕ
count side [] q = 0
count side (g ∷ gs) q = one (side g) q + count side gs q

-- over m runs from q on
sum : (ℕ → ℕ) → ℕ → ℕ → ℕ
sum f q zero = 0
sum f q (suc m) = f q + sum f (suc q) m

sum_one_past : (a m q : ℕ) → a < q → sum (one a) q m ≡ 0
unfolding sum one choose
sum_one_past a zero q h = refl
sum_one_past a (suc m) q h = rw (ne_eqb a q (λ z. omega arith), sum_one_past a m (suc q) (omega arith))

sum_one : (a m q : ℕ) → q ≤ a → a < q + m → sum (one a) q m ≡ 1
unfolding sum one choose
sum_one a zero q l h = absurd (omega arith)
sum_one a (suc m) q l h = go (sum_one a m (suc q)) (eqb a q) refl
  where
    go : (suc q ≤ a → a < suc q + m → sum (one a) (suc q) m ≡ 1) → (z : Bool) → eqb a q ≡ z → sum (one a) q (suc m) ≡ 1
    go ih true e = let x = eqb-true a q e in rw (e, sum_one_past a m (suc q) (omega arith))
    go ih false e = let x : a ≡ q → ⊥ = eqb-false a q e in rw e (omega (arith, ih (omega arith) (omega arith)))

sum_more : (side : Group → ℕ) (g : Group) (gs : List Group) (m q : ℕ) → sum (count side (g ∷ gs)) q m ≡ sum (one (side g)) q m + sum (count side gs) q m
unfolding sum count
sum_more side g gs zero q = refl
sum_more side g gs (suc m) q = omega (arith, sum_more side g gs m (suc q))

sum_none : (side : Group → ℕ) (m q : ℕ) → sum (count side []) q m ≡ 0
unfolding sum count
sum_none side zero q = refl
sum_none side (suc m) q = omega (arith, sum_none side m (suc q))

-- each group is counted once on either side
sum_side : {n : ℕ} {gs : List Group} (side : Group → ℕ) → ((g : Group) → g.opener < g.closer → g.closer < n → side g < n) → Proper n gs →
    sum (count side gs) 0 n ≡ length gs
sum_side {n} side w none = sum_none side n 0
sum_side {n} side w (more {g} {gs} a b c p) =
    omega (arith, sum_more side g gs n 0, sum_one (side g) n 0 (omega arith) (omega (arith, w g a b)), sum_side side w p)

-- a run's pieces
count_closings : (gs : List Group) (q marker at : ℕ) → length (closings gs q marker at) ≡ count (λ g. g.closer) gs q
unfolding closings count one choose
count_closings [] q marker at = refl
count_closings (g ∷ gs) q marker at = go (count_closings gs q marker at) (count_closings gs q marker (at + g.taken)) (eqb g.closer q) refl
  where
    go : length (closings gs q marker at) ≡ count (λ g. g.closer) gs q → length (closings gs q marker (at + g.taken)) ≡ count (λ g. g.closer) gs q →
        (z : Bool) → eqb g.closer q ≡ z → length (closings (g ∷ gs) q marker at) ≡ count (λ g. g.closer) (g ∷ gs) q
    go other own true e = rw e (omega arith)
    go other own false e = rw e (omega arith)

count_openings : (gs : List Group) (q marker at : ℕ) → length (openings gs q marker at) ≡ count (λ g. g.opener) gs q
unfolding openings count one choose
count_openings [] q marker at = refl
count_openings (g ∷ gs) q marker at = go (count_openings gs q marker at) (count_openings gs q marker (at - g.taken)) (eqb g.opener q) refl
  where
    go : length (openings gs q marker at) ≡ count (λ g. g.opener) gs q → length (openings gs q marker (at - g.taken)) ≡ count (λ g. g.opener) gs q →
        (z : Bool) → eqb g.opener q ≡ z → length (openings (g ∷ gs) q marker at) ≡ count (λ g. g.opener) (g ∷ gs) q
    go other own true e = rw (e, length-append) (omega arith)
    go other own false e = rw e (omega arith)

-- four events each
closing_length : (ps : List Piece) → length (closing_events ps) ≡ 4 * length ps
unfolding closing_events
closing_length [] = refl
closing_length (p ∷ ps) = omega (arith, closing_length ps)

opening_length : (ps : List Piece) → length (opening_events ps) ≡ 4 * length ps
unfolding opening_events
opening_length [] = refl
opening_length (p ∷ ps) = omega (arith, opening_length ps)

-- what a leftover adds and an emptied run takes off come to two
left_or_emptied : List Group → ℕ → Run → ℕ
left_or_emptied gs q r = choose (remains gs q r) 0 1

leftover_length : (gs : List Group) (q : ℕ) (r : Run) → length (leftover_events gs q r) + 2 * left_or_emptied gs q r ≡ 2
unfolding leftover_events left_or_emptied choose
leftover_length gs q r = go (remains gs q r) refl
  where
    go : (z : Bool) → remains gs q r ≡ z → length (leftover_events gs q r) + 2 * left_or_emptied gs q r ≡ 2
    go true e = rw e
    go false e = rw e

emptied_more : (gs : List Group) (q : ℕ) (r : Run) (rs : List Run) → emptied gs q (r ∷ rs) ≡ left_or_emptied gs q r + emptied gs (suc q) rs
unfolding emptied left_or_emptied choose
emptied_more gs q r rs = go (remains gs q r) refl
  where
    go : (z : Bool) → remains gs q r ≡ z → emptied gs q (r ∷ rs) ≡ left_or_emptied gs q r + emptied gs (suc q) rs
    go true e = rw (e, add-one) (omega arith)
    go false e = rw (e, add-one)

run_length : (gs : List Group) (q : ℕ) (r : Run) →
    length (run_events gs q r) + 2 * left_or_emptied gs q r ≡ 2 + 4 * count (λ g. g.closer) gs q + 4 * count (λ g. g.opener) gs q
unfolding run_events
run_length gs q r =
    rw (length-append, length-append, closing_length, opening_length)
    (omega (arith, leftover_length gs q r, count_closings gs q r.marker r.start, count_openings gs q r.marker (r.start + r.size)))

-- both sides of all groups among m runs from q on
pieces : List Group → ℕ → ℕ → ℕ
pieces gs q m = sum (count (λ g. g.closer) gs) q m + sum (count (λ g. g.opener) gs) q m

pieces_more : (gs : List Group) (q m : ℕ) → pieces gs q (suc m) ≡ count (λ g. g.closer) gs q + count (λ g. g.opener) gs q + pieces gs (suc q) m
unfolding pieces sum
pieces_more gs q m = omega arith

-- the events that come out, with the record's that go
abbrev Balances : List Event → List Run → List Group → ℕ → List Run → Type 0
Balances es rs gs q left = length (replaced es rs gs q) + 2 * emptied gs q left ≡ length es + 4 * pieces gs q (length left)

output_balances : {d last : ℕ} {es : List Event} → Parts d last es → (doc : List ℕ) (i : ℕ) (held : List ℕ) (rs : List Run) (gs : List Group) (q : ℕ) →
    drop q rs ≡ runs_from doc es i held → Balances es rs gs q (runs_from doc es i held)
unfolding replaced emptied runs_from pieces sum
output_balances (nothing l) doc i held rs gs q s = refl
output_balances (event {e = e} {es = es} k n a l c) doc i held rs gs q s =
    let r = runs_event e es n doc i held in
    rw (r, replaced_event e es n rs gs q) (omega (arith, output_balances c doc (i + 1) (after e i held) rs gs q (s ∙ r)))
output_balances (sequence {e = e} {x = x} {es = es} k n y m l z c) doc i held rs gs q s =
    let r = run_of doc e (x ∷ es) i held in
    let ts = runs_from doc es (i + 1 + 1) held in
    let t = first_left rs q r ts (s ∙ runs_run e x es k n y m doc i held) in
    rw (runs_run e x es k n y m doc i held, replaced_run e x es k n y m rs gs q, t.0, length-append, emptied_more gs q r ts, pieces_more gs q (length ts))
    (omega (arith, run_length gs q r, output_balances c doc (i + 1 + 1) held rs gs (suc q) t.1))

-- each run has two events of its own
emptied_one : (gs : List Group) (q : ℕ) (r : Run) → left_or_emptied gs q r ≤ 1
unfolding left_or_emptied choose
emptied_one gs q r = go (remains gs q r) refl
  where
    go : (z : Bool) → remains gs q r ≡ z → left_or_emptied gs q r ≤ 1
    go true e = rw e (omega arith)
    go false e = rw e (omega arith)

few_emptied : {d last : ℕ} {es : List Event} → Parts d last es → (doc : List ℕ) (i : ℕ) (held : List ℕ) (gs : List Group) (q : ℕ) →
    2 * emptied gs q (runs_from doc es i held) ≤ length es
unfolding emptied runs_from
few_emptied (nothing l) doc i held gs q = omega arith
few_emptied (event {e = e} {es = es} k n a l c) doc i held gs q =
    rw (runs_event e es n doc i held) (omega (arith, few_emptied c doc (i + 1) (after e i held) gs q))
few_emptied (sequence {e = e} {x = x} {es = es} k n y m l z c) doc i held gs q =
    let r = run_of doc e (x ∷ es) i held in
    let ts = runs_from doc es (i + 1 + 1) held in
    rw (runs_run e x es k n y m doc i held, emptied_more gs q r ts)
    (omega (arith, emptied_one gs q r, few_emptied c doc (i + 1 + 1) held gs (suc q)))

pub emptied_few : EmptiedFew
unfolding runs_of
emptied_few profile options doc es deep a = few_emptied (parts a) doc 0 [] (outcome profile options doc es).groups 0

-- "Result size: E − 2 × emptied runs + 8 × groups."
pub size_of_output : SizeOfOutput
unfolding output result_size runs_of pieces
size_of_output profile options doc es deep a =
    let gs = (outcome profile options doc es).groups in
    let p : Proper (length (runs_of doc es)) gs =
    rw (length-map (runs_of doc es) (standing profile options)) at (matches_proper (outcome_matched profile options doc es).matches) in
    omega (
      arith,
      output_balances (parts a) doc 0 [] (runs_of doc es) gs 0 refl,
      few_emptied (parts a) doc 0 [] gs 0,
      sum_side (λ g. g.closer) (λ g x y. y) p,
      sum_side (λ g. g.opener) (λ g x y. omega arith) p,
    )

-- each group brings eight events, and what is taken off was never its own
pub many_groups_too_long : ManyGroupsTooLong
unfolding result_size
many_groups_too_long profile options doc es h = omega arith
