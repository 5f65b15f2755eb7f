-- The span and the text of a group are those of its two pieces as runs' Pieces has them: openings and closings of a list of groups that is put
-- together, and the group in its place between those before it and those behind it.
-- Assumes nothing.
use Prim.Native.Nat.{ℕ, suc, ◌+◌, ◌-◌, ◌<◌}
use mathlib.Core.Path.{◌≡◌, refl, ap, ◌∙◌}
use mathlib.Core.Bool.{Bool, true, false}
use mathlib.Core.List.{List, [], ◌∷◌, ◌++◌, append_assoc, append-nil}
use native.Mathlib.Omega.{arith}
use lib.Dec.{eqb}
use lib.ListN.{length, take, drop}
use lib.Seq.{split_at}
use borrow.Author.Tests.{eq-eqb}
use Rattle.record.specs.Choice.{choose}
use Rattle.record.specs.Sound.{sound}
use Rattle.record.specs.declared.event.Event.{Event}
use Rattle.runs.specs.Runs.{runs_of}
use Rattle.runs.specs.Rule.{Profile}
use Rattle.runs.specs.Plain.{Group, group, group_at}
use Rattle.runs.specs.Pieces.{Piece, piece, closings, openings, closed, opened, outcome}
use Rattle.groups.specs.Spans.{opener_of, closer_of, span_from, text_from, text_to, span_to, Among, Held}
use Rattle.groups.proofs.Laws.{opened_most, opened_suc, closed_suc}
use Rattle.groups.proofs.Accounts.{spent_within}
use Rattle.groups.proofs.Places.{ends_before}
use Rattle.groups.proofs.Crossing.{in_runs, text_in_order}

-- closings of two lists of groups, one after the other
pub closings_append : (gs hs : List Group) (q marker at : ℕ) → closings (gs ++ hs) q marker at ≡ closings gs q marker at ++ closings hs q marker (at + closed gs q)
unfolding closings closed choose
closings_append [] hs q marker at = let e : at + 0 ≡ at = omega arith in rw e
closings_append (g ∷ gs) hs q marker at = go (closings_append gs hs q marker) (eqb g.closer q) refl
  where
    go : ((at : ℕ) → closings (gs ++ hs) q marker at ≡ closings gs q marker at ++ closings hs q marker (at + closed gs q)) →
        (z : Bool) → eqb g.closer q ≡ z →
        closings ((g ∷ gs) ++ hs) q marker at ≡ closings (g ∷ gs) q marker at ++ closings hs q marker (at + closed (g ∷ gs) q)
    go ih true e = let s : at + (g.taken + closed gs q) ≡ at + g.taken + closed gs q = omega arith in rw (e, s, ih (at + g.taken))
    go ih false e = rw (e, ih at)

-- openings of two lists: those of the later groups stand first
pub openings_append : (gs hs : List Group) (q marker at : ℕ) → openings (gs ++ hs) q marker at ≡ openings hs q marker (at - opened gs q) ++ openings gs q marker at
unfolding openings opened choose
openings_append [] hs q marker at = let e : at - 0 ≡ at = omega arith in rw (e, append-nil)
openings_append (g ∷ gs) hs q marker at = go (openings_append gs hs q marker) (eqb g.opener q) refl
  where
    go : ((at : ℕ) → openings (gs ++ hs) q marker at ≡ openings hs q marker (at - opened gs q) ++ openings gs q marker at) →
        (z : Bool) → eqb g.opener q ≡ z →
        openings ((g ∷ gs) ++ hs) q marker at ≡ openings hs q marker (at - opened (g ∷ gs) q) ++ openings (g ∷ gs) q marker at
    go ih true e = let s : at - (g.taken + opened gs q) ≡ at - g.taken - opened gs q = omega arith in rw (e, s, ih (at - g.taken), append_assoc)
    go ih false e = rw (e, ih at)

-- the closing piece of the group i
closing_among : (gs : List Group) (i q marker at : ℕ) → i < length gs → (group_at gs i).closer ≡ q →
    Among (piece marker (group_at gs i).taken (at + closed (take i gs) q) (at + closed (take i gs) q + (group_at gs i).taken)) (closings gs q marker at)
unfolding closings choose
closing_among gs i q marker at h e =
    record {
      before = closings (take i gs) q marker at;
      behind = closings (drop (suc i) gs) q marker (at + closed (take i gs) q + (group_at gs i).taken);
      split =
          ap (λ (l : List Group). closings l q marker at) (split_at gs i (group 0 0 0) h)
          ∙ (closings_append (take i gs) (group_at gs i ∷ drop (suc i) gs) q marker at
          ∙ rw (eq-eqb _ _ e));
    }

-- and the opening piece
opening_among : (gs : List Group) (i q marker at : ℕ) → i < length gs → (group_at gs i).opener ≡ q →
    Among (piece marker (group_at gs i).taken (at - opened (take i gs) q - (group_at gs i).taken) (at - opened (take i gs) q)) (openings gs q marker at)
unfolding openings choose
opening_among gs i q marker at h e =
    record {
      before = openings (drop (suc i) gs) q marker (at - opened (take i gs) q - (group_at gs i).taken);
      behind = openings (take i gs) q marker at;
      split =
          ap (λ (l : List Group). openings l q marker at) (split_at gs i (group 0 0 0) h)
          ∙ (openings_append (take i gs) (group_at gs i ∷ drop (suc i) gs) q marker at
          ∙ rw (eq-eqb _ _ e, append_assoc));
    }

between : (m k : ℕ) {a b a' b' : ℕ} {ps : List Piece} → a ≡ a' → b ≡ b' → Among (piece m k a b) ps → Among (piece m k a' b') ps
between m k x y p = rw (x, y) at p

-- every group of a record has its two pieces
pub held : (profile : Profile) (options : ℕ) (doc : List ℕ) (es : List Event) (deep d : ℕ) → sound deep d es ≡ true →
    (i : ℕ) → i < length (outcome profile options doc es).groups → Held (runs_of doc es) (outcome profile options doc es).groups i
unfolding span_from text_from text_to span_to
held profile options doc es deep d s i h =
    let rs = runs_of doc es in
    let gs = (outcome profile options doc es).groups in
    let o = opened_suc gs i h in
    let c = closed_suc gs i h in
    let most = opened_most gs (suc i) (group_at gs i).opener in
    let fits = spent_within profile options doc es (group_at gs i).opener in
    record {
      opening = between (opener_of rs gs i).marker (group_at gs i).taken (omega arith) refl (opening_among gs i (group_at gs i).opener (opener_of rs gs i).marker ((opener_of rs gs i).start + (opener_of rs gs i).size) h refl);
      closing = between (closer_of rs gs i).marker (group_at gs i).taken refl (omega arith) (closing_among gs i (group_at gs i).closer (closer_of rs gs i).marker (closer_of rs gs i).start h refl);
      opening_size = omega arith;
      closing_size = omega arith;
      in_order = text_in_order rs gs (spent_within profile options doc es) (ends_before deep d doc es s) (in_runs profile options doc es) i h;
    }
