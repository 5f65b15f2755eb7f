-- What a good record is: all that the check of its document and its events tells of one, said once. The inner functions of resolvers ask it of a
-- record; proofs/Good.antt proves that a record is so where the check answers `Good`. What stands before the document's count in form 2 is not part
-- of it: `fronted` asks that first.
-- Assumes nothing.
use Rattle.std.specs.Prelude.{ℕ, ◌+◌, ◌≤◌, ◌<◌, ◌≡◌, true, List, length, get_or}
use Rattle.record.specs.Bytes.{u32_at}
use Rattle.record.specs.Form.{place_in, mate_in, Known}
use Rattle.record.specs.declared.form.Form.{Form}
use Rattle.record.specs.Event.{stored_at, event_at, events_in}
use Rattle.record.specs.Stack.{innermost_of, open_at}
use Rattle.record.specs.Sound.{sound}

-- a good record of a form: its document has d bytes, and it has e events
pub record GoodIn (f : Form) (s : List ℕ) (d e : ℕ) : Type 0 where
  pub known : Known f
  -- both counts fit and are within their limits, and nothing follows the events
  pub document_count : u32_at s f.front ≡ d
  pub event_count : u32_at s (4 + f.front + d) ≡ e
  pub small : d ≤ 16384
  pub few : e ≤ 2048
  pub whole : length s ≡ place_in f d e
  -- no carriage return is in the document
  pub no_return : (k : ℕ) → k < d → get_or s (4 + f.front + k) 0 ≡ 13 → ⊥
  -- each event is good by itself and fits what is open, none is left open, and the two bytes of each that have to be zero are
  pub sound_events : sound 64 d (events_in f s d e) ≡ true
  pub zero_bytes : (k : ℕ) → k < e → (stored_at s (place_in f d k)).zeros ≡ 0
  -- where events carry partner numbers, an exit and its enter carry each other's
  pub true_pairs : 12 ≤ f.width → (k : ℕ) → k < e → ((event_at s (place_in f d k)).kind ≡ 0 → ⊥) →
      (mate_in f s d k ≡ innermost_of (open_at (events_in f s d e) k)) × (mate_in f s d (innermost_of (open_at (events_in f s d e) k)) ≡ k)
