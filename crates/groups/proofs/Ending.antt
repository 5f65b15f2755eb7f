-- The plain rule ends, and on a record that has no runs it gives the record. Each match lowers the markers left, which is the measure.
-- Assumes nothing.
use Prim.Native.Nat.{ℕ, zero, suc, ◌+◌, ◌*◌, ◌≤◌, ◌<◌}
use mathlib.Core.Path.{◌≡◌, refl}
use mathlib.Core.Bool.{false}
use mathlib.Core.List.{List, [], ◌∷◌, ◌++◌}
use native.Mathlib.Omega.{arith}
use lib.ListN.{length, length-append}
use borrow.Author.Tests.{ne_eqb}
use Rattle.record.specs.Choice.{choose}
use Rattle.record.specs.Stack.{after}
use Rattle.record.specs.declared.event.Event.{Event}
use Rattle.record.proofs.Bools.{and_false}
use Rattle.runs.specs.declared.Next.{Next}
use Rattle.runs.specs.declared.Next.TheVariants.{Match, Done}
use Rattle.runs.specs.Runs.{Run, enters_run, runs_from, runs_of}
use Rattle.runs.specs.Rule.{Rule, Profile}
use Rattle.runs.specs.Plain.{Standing, Group, at, forth, next, taken_by, matched, group, rounds, total, plain}
use Rattle.runs.specs.Pieces.{outcome}
use Rattle.runs.specs.Output.{replaced, output}
use Rattle.groups.specs.Matches.{Found, Matches, start, then}
use Rattle.groups.specs.Ending.{Ended, Enough, Runless}
use Rattle.groups.proofs.Search.{next_found}
use Rattle.groups.proofs.Laws.{length_matched, amount_most, opener_left, closer_left, other_left}
use Rattle.groups.proofs.Matches.{within}

-- lists of runs that differ in what is left of none, one or two
total_none : (rs vs : List Standing) → length vs ≡ length rs → ((q : ℕ) → (at vs q).left ≡ (at rs q).left) → total vs ≡ total rs
unfolding total
total_none [] [] l e = refl
total_none [] (v ∷ vs) l e = absurd (omega arith)
total_none (r ∷ rs) [] l e = absurd (omega arith)
total_none (r ∷ rs) (v ∷ vs) l e = omega (arith, e 0, total_none rs vs (omega arith) (λ q. e (suc q)))

total_one : (rs vs : List Standing) (c k : ℕ) → length vs ≡ length rs → c < length rs → (at vs c).left + k ≡ (at rs c).left →
    ((q : ℕ) → (q ≡ c → ⊥) → (at vs q).left ≡ (at rs q).left) → total vs + k ≡ total rs
unfolding total
total_one [] vs c k l h own other = absurd (omega arith)
total_one (r ∷ rs) [] c k l h own other = absurd (omega arith)
total_one (r ∷ rs) (v ∷ vs) zero k l h own other =
    omega (arith, total_none rs vs (omega arith) (λ q. other (suc q) (λ z. omega arith)))
total_one (r ∷ rs) (v ∷ vs) (suc c) k l h own other =
    omega (arith, other 0 (λ z. omega arith), total_one rs vs c k (omega arith) (omega arith) own (λ q n. other (suc q) (λ z. n (omega arith))))

total_two : (rs vs : List Standing) (o c k : ℕ) → length vs ≡ length rs → o < c → c < length rs → (at vs o).left + k ≡ (at rs o).left →
    (at vs c).left + k ≡ (at rs c).left → ((q : ℕ) → (q ≡ o → ⊥) → (q ≡ c → ⊥) → (at vs q).left ≡ (at rs q).left) → total vs + 2 * k ≡ total rs
unfolding total
total_two [] vs o c k l oc h a b other = absurd (omega arith)
total_two (r ∷ rs) [] o c k l oc h a b other = absurd (omega arith)
total_two (r ∷ rs) (v ∷ vs) o zero k l oc h a b other = absurd (omega arith)
total_two (r ∷ rs) (v ∷ vs) zero (suc c) k l oc h a b other =
    omega (arith, total_one rs vs c k (omega arith) (omega arith) b (λ q n. other (suc q) (λ z. omega arith) (λ z. n (omega arith))))
total_two (r ∷ rs) (v ∷ vs) (suc o) (suc c) k l oc h a b other =
    omega (
      arith,
      other 0 (λ z. omega arith) (λ z. omega arith),
      total_two rs vs o c k (omega arith) (omega arith) (omega arith) a b (λ q m n. other (suc q) (λ z. m (omega arith)) (λ z. n (omega arith))),
    )

-- what a match takes of the markers left
pub total_matched : {rule : Rule} {rs : List Standing} {from o c : ℕ} → Found rule rs from o c → total (matched rs o c) + 2 * taken_by rs o c ≡ total rs
total_matched {rule} {rs} {from} {o} {c} f =
    let lo : o < length rs = omega (arith, f.within, f.earlier) in
    let most = amount_most (at rs o).left (at rs c).left f.opener_left f.closer_left in
    total_two rs (matched rs o c) o c (taken_by rs o c) (length_matched rs o c) f.earlier f.within
    (omega (arith, opener_left rs o c lo f.within o refl)) (omega (arith, closer_left rs o c lo f.within c refl))
    (λ q x y. other_left rs o c lo f.within q x y)

pub total_falls : {rule : Rule} {rs : List Standing} {from o c : ℕ} → Found rule rs from o c → total (matched rs o c) + 2 ≤ total rs
total_falls {rule} {rs} {from} {o} {c} f =
    let most = amount_most (at rs o).left (at rs c).left f.opener_left f.closer_left in
    omega (arith, total_matched f)

-- so groups are at most half as many as markers
pub few : {rule : Rule} {rs₀ : List Standing} {gs : List Group} {rs : List Standing} {c : ℕ} → Matches rule rs₀ gs rs c → total rs + 2 * length gs ≤ total rs₀
few start = omega arith
few (then {gs} {rs} {from} o c m f) = omega (arith, few m, total_falls f, length-append gs (group o c (taken_by rs o c) ∷ []))

-- enough steps are as good as more
pub enough : (k m : ℕ) (rule : Rule) (rs : List Standing) (c : ℕ) (gs : List Group) (t : ℕ) → total rs < k → total rs < m → c ≤ length rs →
    rounds k rule rs c gs t ≡ rounds m rule rs c gs t
unfolding rounds
enough zero m rule rs c gs t hk hm l = absurd (omega arith)
enough (suc k) zero rule rs c gs t hk hm l = absurd (omega arith)
enough (suc k) (suc m) rule rs c gs t hk hm l =
    go (λ o d u f. enough k m rule (matched rs o d) d (gs ++ (group o d (taken_by rs o d) ∷ [])) (t + u)
    (omega (arith, total_falls f)) (omega (arith, total_falls f)) (omega (arith, f.within, length_matched rs o d))) (next rule rs c) refl
  where
    go : ((o d u : ℕ) → Found rule rs c o d → rounds k rule (matched rs o d) d (gs ++ (group o d (taken_by rs o d) ∷ [])) (t + u)
        ≡ rounds m rule (matched rs o d) d (gs ++ (group o d (taken_by rs o d) ∷ [])) (t + u)) →
        (n : Next) → next rule rs c ≡ n → rounds (suc k) rule rs c gs t ≡ rounds (suc m) rule rs c gs t
    go ih (Match o d u) e = rw e (ih o d u (next_found rule rs c o d u l e))
    go ih (Done u) e = rw e

pub plain_enough : (rule : Rule) (rs : List Standing) → Enough rule rs
unfolding plain
plain_enough rule rs k h = enough k (total rs + 1) rule rs 0 [] 0 h (omega arith) (omega arith)

-- with enough steps the end is reached
ended : (k : ℕ) (rule : Rule) (rs₀ rs : List Standing) (c : ℕ) (gs : List Group) (t : ℕ) → total rs < k → Matches rule rs₀ gs rs c →
    Ended rule rs₀ (rounds k rule rs c gs t)
unfolding rounds
ended zero rule rs₀ rs c gs t h m = absurd (omega arith)
ended (suc k) rule rs₀ rs c gs t h m =
    go (λ o d u f. ended k rule rs₀ (matched rs o d) d (gs ++ (group o d (taken_by rs o d) ∷ [])) (t + u) (omega (arith, total_falls f)) (then o d m f))
    (next rule rs c) refl
  where
    go : ((o d u : ℕ) → Found rule rs c o d → Ended rule rs₀ (rounds k rule (matched rs o d) d (gs ++ (group o d (taken_by rs o d) ∷ [])) (t + u))) →
        (n : Next) → next rule rs c ≡ n → Ended rule rs₀ (rounds (suc k) rule rs c gs t)
    go ih (Match o d u) e = rw e (ih o d u (next_found rule rs c o d u (within m) e))
    go ih (Done u) e = rw e (record { last = c; tried = u; matches = m; done = e; few = few m })

-- the plain rule ends
pub plain_ended : (rule : Rule) (rs : List Standing) → Ended rule rs (plain rule rs)
unfolding plain
plain_ended rule rs = ended (total rs + 1) rule rs rs 0 [] 0 (omega arith) start

-- an event that is not of a run enters none
enters_none : (e : Event) → (e.name ≡ 1 → ⊥) → enters_run e ≡ false
unfolding enters_run
enters_none e n = and_false _ _ (ne_eqb e.name 1 n)

-- a record that has no runs
no_runs_from : (doc : List ℕ) (es : List Event) (i : ℕ) (held : List ℕ) → Runless es → runs_from doc es i held ≡ []
unfolding runs_from choose
no_runs_from doc [] i held n = refl
no_runs_from doc (e ∷ es) i held n =
    rw (enters_none e (n 0 (omega arith))) (no_runs_from doc es (i + 1) (after e i held) (λ k l. n (suc k) (omega arith)))

pub no_runs : (doc : List ℕ) (es : List Event) → Runless es → runs_of doc es ≡ []
unfolding runs_of
no_runs doc es n = no_runs_from doc es 0 [] n

-- where there are no runs there are no groups
pub plain_nothing : (rule : Rule) → (plain rule []).groups ≡ []
unfolding plain rounds total forth
plain_nothing rule = refl

pub no_groups : (profile : Profile) (options : ℕ) (doc : List ℕ) (es : List Event) → Runless es → (outcome profile options doc es).groups ≡ []
unfolding outcome
no_groups profile options doc es n = rw (no_runs doc es n) (plain_nothing (profile.rule options))

replaced_nothing : (es : List Event) (rs : List Run) (gs : List Group) (q : ℕ) → Runless es → replaced es rs gs q ≡ es
unfolding replaced choose
replaced_nothing [] rs gs q n = refl
replaced_nothing (e ∷ es) rs gs q n =
    let x : e.name ≡ 1 → ⊥ = n 0 (omega arith) in
    rw (enters_none e x, ne_eqb e.name 1 x, replaced_nothing es rs gs q (λ k l. n (suc k) (omega arith)))

-- a record that has no runs comes out as it is
pub output_nothing : (profile : Profile) (options : ℕ) (doc : List ℕ) (es : List Event) → Runless es → output profile options doc es ≡ es
unfolding output
output_nothing profile options doc es n = replaced_nothing es (runs_of doc es) (outcome profile options doc es).groups 0 n
