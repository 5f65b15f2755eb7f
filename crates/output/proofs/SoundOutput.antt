-- What comes out is sound: its places rise, and it nests.
-- Assumes nothing.
use Prim.Native.Nat.{ℕ, ◌<◌}
use mathlib.Core.Path.{◌≡◌, refl, sym, ap, ◌∙◌}
use mathlib.Core.List.{List, [], map}
use native.Mathlib.Omega.{arith}
use lib.ListN.{length, length-map}
use Rattle.record.specs.declared.event.Event.{Event}
use Rattle.runs.specs.Runs.{Run, runs_of}
use Rattle.runs.specs.Rule.{Profile}
use Rattle.runs.specs.Plain.{Standing, at}
use Rattle.runs.specs.Pieces.{standing, outcome}
use Rattle.runs.specs.Output.{output}
use Rattle.groups.specs.Matches.{begin}
use Rattle.groups.specs.Places.{run_at}
use Rattle.groups.proofs.Matches.{outcome_matched, at_begin}
use Rattle.output.specs.Accepted.{Accepted}
use Rattle.output.specs.Theorems.{OutputSound}
use Rattle.output.proofs.Cut.{cut, parts}
use Rattle.output.proofs.Walks.{Walks, Rises, walked_sound}
use Rattle.output.proofs.Weave.{gap}
use Rattle.output.proofs.Aligned.{replaced_weaves, bare_walks}
use Rattle.output.proofs.Between.{one_container_between}
use Rattle.output.proofs.Nesting.{nests}
use Rattle.output.proofs.Rising.{output_rises}
use Rattle.output.proofs.MarkerBytes.{each_divided}

-- a run before the first match has the record's marker and container
module _ (profile : Profile) (options : ℕ) (rs : List Run) (q : ℕ) (h : q < length rs) where
  begin_marker : (at (map (standing profile options) rs) q).marker ≡ (run_at rs q).marker
  unfolding standing
  begin_marker = ap (λ (r : Standing). r.marker) (at_begin profile options rs q h)

  begin_container : (at (map (standing profile options) rs) q).container ≡ (run_at rs q).container
  unfolding standing
  begin_container = ap (λ (r : Standing). r.container) (at_begin profile options rs q h)

module _ (profile : Profile) (options : ℕ) (doc : List ℕ) (es : List Event) (deep : ℕ) (a : Accepted deep options doc es) where
  rises : Rises 0 (output profile options doc es) (length doc)
  unfolding output runs_of
  rises = output_rises (parts a) doc 0 [] (runs_of doc es) (outcome profile options doc es).groups 0 (each_divided profile options doc es) refl

  walks : Walks (output profile options doc es) [] []
  unfolding output runs_of
  walks =
      let rs = runs_of doc es in
      let gs = (outcome profile options doc es).groups in
      rw (replaced_weaves (parts a) doc 0 [] rs gs 0)
      (nests (gap es) rs (length rs) (profile.rule options) (begin profile options doc es) (length-map rs (standing profile options))
      (λ q h. begin_marker profile options rs q h)
      (λ o m p e h c.
      one_container_between doc es (cut a) o m p e h
      (sym (begin_container profile options rs o (omega arith)) ∙ (c ∙ begin_container profile options rs p h)))
      (outcome_matched profile options doc es).matches (bare_walks (cut a) doc 0 [] 0))

pub output_sound : OutputSound
output_sound profile options doc es deep a room h =
    walked_sound room (rises profile options doc es deep a) (walks profile options doc es deep a) (omega arith)
