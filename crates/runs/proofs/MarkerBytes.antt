-- The clause on neighbouring markers reads bytes: the two last statements of specs/Paragraph.antt.
-- Assumes nothing.
use Prim.Native.Nat.{ℕ, suc, ◌≤◌, ◌<◌}
use mathlib.Core.Path.{◌≡◌, refl, sym, ◌∙◌}
use mathlib.Core.Bool.{Bool, false, not}
use mathlib.Core.List.{List}
use native.Mathlib.Omega.{arith}
use native.Mathlib.Decide.{dec_lt}
use lib.Dec.{eqb}
use lib.ListN.{length, get_or}
use borrow.Author.Tests.{ne_eqb, lt-ltb, le-ltb}
use Rattle.record.specs.Choice.{choose}
use Rattle.characters.specs.Beside.{neighbour_before, neighbour_after}
use Rattle.characters.specs.Laws.{Past, malformed, character}
use Rattle.characters.specs.Beside.{Neighbour}
use Rattle.characters.specs.Beside.{Edge, Character}
use Rattle.characters.proofs.Neighbours.{edge_after, edge_before, ascii_after, ascii_before, past_after, past_before}
use Rattle.runs.specs.Flanking.{beside_marker}
use Rattle.runs.specs.Runs.{byte_at}
use Rattle.runs.specs.Paragraph.{marker_byte, MarkerAfter, MarkerBefore}
use Rattle.runs.proofs.AsWritten.{never}

past_none : (strike : Bool) (marker : ℕ) (n : Neighbour) → Past n → beside_marker strike marker n ≡ false
unfolding beside_marker
past_none strike marker _ malformed = refl
past_none strike marker _ (character c h) =
    rw (ne_eqb c 42 (λ e. omega arith), ne_eqb c 95 (λ e. omega arith), ne_eqb c 126 (λ e. omega arith)) (never (not (eqb marker 126)))

module _ (strike : Bool) (marker : ℕ) (doc : List ℕ) (at : ℕ) where
  byte_past : at < length doc → 128 ≤ get_or doc at 0 → marker_byte strike marker (byte_at doc at) ≡ false
  unfolding marker_byte byte_at choose
  byte_past h p =
      rw (
        lt-ltb at (length doc) h,
        ne_eqb (get_or doc at 0) 42 (λ e. omega arith),
        ne_eqb (get_or doc at 0) 95 (λ e. omega arith),
        ne_eqb (get_or doc at 0) 126 (λ e. omega arith),
      ) (never (not (eqb marker 126)))

  byte_ascii : at < length doc → beside_marker strike marker (Character (get_or doc at 0)) ≡ marker_byte strike marker (byte_at doc at)
  unfolding beside_marker marker_byte byte_at choose
  byte_ascii h = rw (lt-ltb at (length doc) h)

  byte_edge : length doc ≤ at → beside_marker strike marker Edge ≡ marker_byte strike marker (byte_at doc at)
  unfolding beside_marker marker_byte byte_at choose
  byte_edge h = rw (le-ltb at (length doc) h)

pub marker_after : MarkerAfter
marker_after strike marker doc at = go (dec_lt at (length doc)) (dec_lt (get_or doc at 0) 128)
  where
    go : Dec (at < length doc) → Dec (get_or doc at 0 < 128) → beside_marker strike marker (neighbour_after doc at) ≡ marker_byte strike marker (byte_at doc at)
    go (no e) q = rw (edge_after doc at (omega arith)) (byte_edge strike marker doc at (omega arith))
    go (yes h) (yes q) = rw (ascii_after doc at h q) (byte_ascii strike marker doc at h)
    go (yes h) (no q) =
        past_none strike marker (neighbour_after doc at) (past_after doc at h (omega arith)) ∙ sym (byte_past strike marker doc at h (omega arith))

pub marker_before : MarkerBefore
marker_before strike marker doc at = go (dec_lt at (length doc)) (dec_lt (get_or doc at 0) 128)
  where
    go : Dec (at < length doc) → Dec (get_or doc at 0 < 128) → beside_marker strike marker (neighbour_before doc (suc at)) ≡ marker_byte strike marker (byte_at doc at)
    go (no e) q = rw (edge_before doc at (omega arith)) (byte_edge strike marker doc at (omega arith))
    go (yes h) (yes q) = rw (ascii_before doc at h q) (byte_ascii strike marker doc at h)
    go (yes h) (no q) =
        past_none strike marker (neighbour_before doc (suc at)) (past_before doc at h (omega arith)) ∙ sym (byte_past strike marker doc at h (omega arith))
