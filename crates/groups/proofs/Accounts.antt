-- Every run's account holds after any matches, and so after the plain rule: by induction on the matches.
-- Assumes nothing.
use Prim.Native.Nat.{ℕ, ◌+◌, ◌≤◌, ◌<◌}
use mathlib.Core.Path.{◌≡◌, refl, sym, ap, ◌∙◌}
use mathlib.Core.List.{List, [], ◌∷◌, ◌++◌}
use mathlib.Core.Logic.{◌⊎◌, inl, inr}
use native.Mathlib.Omega.{arith}
use lib.ListN.{length, get_or, length-map}
use Rattle.record.specs.declared.event.Event.{Event}
use Rattle.runs.specs.Runs.{runs_of}
use Rattle.runs.specs.Rule.{Rule, Profile}
use Rattle.runs.specs.Plain.{Standing, Group, at, taken_by, matched, group, plain}
use Rattle.runs.specs.Pieces.{standing, outcome, closed, opened}
use Rattle.runs.specs.Output.{no_run}
use Rattle.groups.specs.Matches.{Found, Matches, start, then, begin}
use Rattle.groups.specs.Accounts.{Accounts}
use Rattle.groups.proofs.Matches.{plain_matched, outcome_matched, at_begin}
use Rattle.groups.proofs.Laws.{below, same, length_matched, beyond, kept, amount_most, opener_left, closer_left, other_left, open_was, closed_append, opened_append, closed_own, closed_other, opened_own, opened_other}

-- the account of one run after a match
spent_more : (rule : Rule) (rs : List Standing) (gs : List Group) (from o c q was : ℕ) → Found rule rs from o c →
    (at rs q).left + closed gs q + opened gs q ≡ was →
    (at (matched rs o c) q).left + closed (gs ++ (group o c (taken_by rs o c) ∷ [])) q + opened (gs ++ (group o c (taken_by rs o c) ∷ [])) q ≡ was
spent_more rule rs gs from o c q was f e = rw (closed_append, opened_append) (go (same o q) (same c q))
  where
    lc : c < length rs
    lc = f.within

    lo : o < length rs
    lo = omega (arith, f.within, f.earlier)

    most : (0 < taken_by rs o c) × (taken_by rs o c ≤ 2) × (taken_by rs o c ≤ (at rs o).left) × (taken_by rs o c ≤ (at rs c).left)
    most = amount_most (at rs o).left (at rs c).left f.opener_left f.closer_left

    go : (o ≡ q) ⊎ (o ≡ q → ⊥) → (c ≡ q) ⊎ (c ≡ q → ⊥) →
        (at (matched rs o c) q).left + (closed gs q + closed (group o c (taken_by rs o c) ∷ []) q)
        + (opened gs q + opened (group o c (taken_by rs o c) ∷ []) q) ≡ was
    go (inl a) (inl b) = absurd (omega (arith, f.earlier))
    go (inl a) (inr b) =
        let x = opener_left rs o c lo lc q (sym a) in
        let y : (at rs o).left ≡ (at rs q).left = ap (λ (n : ℕ). (at rs n).left) a in
        omega (arith, most, closed_other (group o c (taken_by rs o c)) q b, opened_own (group o c (taken_by rs o c)) q a)
    go (inr a) (inl b) =
        let x = closer_left rs o c lo lc q (sym b) in
        let y : (at rs c).left ≡ (at rs q).left = ap (λ (n : ℕ). (at rs n).left) b in
        omega (arith, most, closed_own (group o c (taken_by rs o c)) q b, opened_other (group o c (taken_by rs o c)) q a)
    go (inr a) (inr b) =
        let x = other_left rs o c lo lc q (λ z. a (sym z)) (λ z. b (sym z)) in
        omega (arith, closed_other (group o c (taken_by rs o c)) q b, opened_other (group o c (taken_by rs o c)) q a)

-- matches keep every run's account
pub matches_account : {rule : Rule} {rs₀ : List Standing} {gs : List Group} {rs : List Standing} {c : ℕ} → Matches rule rs₀ gs rs c → Accounts rs₀ gs rs
unfolding closed opened
matches_account start =
    record {
      as_many = refl;
      marker = λ q. refl;
      container = λ q. refl;
      whole = λ q. refl;
      closes = λ q. refl;
      opens = λ q e. e;
      spent = λ q. omega arith;
    }
matches_account {rule} (then {gs} {rs} {from} o c m f) =
    let a = matches_account m in
    record {
      as_many = length_matched rs o c ∙ a.as_many;
      marker = λ q. kept (λ (r : Standing). r.marker) rs o c q (λ r. refl) ∙ a.marker q;
      container = λ q. kept (λ (r : Standing). r.container) rs o c q (λ r. refl) ∙ a.container q;
      whole = λ q. kept (λ (r : Standing). r.whole) rs o c q (λ r. refl) ∙ a.whole q;
      closes = λ q. kept (λ (r : Standing). r.closes) rs o c q (λ r. refl) ∙ a.closes q;
      opens = λ q e. a.opens q (open_was rs o c q e);
      spent = λ q. spent_more rule rs gs from o c q _ f (a.spent q);
    }

-- and so does the plain rule
pub plain_account : (rule : Rule) (rs : List Standing) → Accounts rs (plain rule rs).groups (plain rule rs).runs
plain_account rule rs = matches_account (plain_matched rule rs).matches

pub outcome_account : (profile : Profile) (options : ℕ) (doc : List ℕ) (es : List Event) →
    Accounts (begin profile options doc es) (outcome profile options doc es).groups (outcome profile options doc es).runs
outcome_account profile options doc es = matches_account (outcome_matched profile options doc es).matches

-- "Every marker byte": what a run gave as a closer and as an opener is not more than it had
pub spent_within : (profile : Profile) (options : ℕ) (doc : List ℕ) (es : List Event) (q : ℕ) →
    closed (outcome profile options doc es).groups q + opened (outcome profile options doc es).groups q ≤ (get_or (runs_of doc es) q no_run).size
unfolding standing
spent_within profile options doc es q = go (below q (length (runs_of doc es)))
  where
    s : (at (outcome profile options doc es).runs q).left + closed (outcome profile options doc es).groups q + opened (outcome profile options doc es).groups q
        ≡ (at (begin profile options doc es) q).left
    s = (outcome_account profile options doc es).spent q

    go : (q < length (runs_of doc es)) ⊎ (length (runs_of doc es) ≤ q) →
        closed (outcome profile options doc es).groups q + opened (outcome profile options doc es).groups q ≤ (get_or (runs_of doc es) q no_run).size
    go (inl h) =
        let e : (at (begin profile options doc es) q).left ≡ (get_or (runs_of doc es) q no_run).size =
        ap (λ (r : Standing). r.left) (at_begin profile options (runs_of doc es) q h) in
        omega (arith, s)
    go (inr h) =
        let l : length (begin profile options doc es) ≡ length (runs_of doc es) = length-map (runs_of doc es) (standing profile options) in
        let e : (at (begin profile options doc es) q).left ≡ 0 = ap (λ (r : Standing). r.left) (beyond (begin profile options doc es) q (omega arith)) in
        omega (arith, s)
