-- The check of a whole record, case by case.
-- Assumes nothing.
use Rattle.std.specs.Prelude.{Some, None}
use mathlib.Core.Path.{◌≡◌, sym}
use mathlib.Core.List.{List, []}
use Prim.Native.Nat.{ℕ, ◌+◌, ◌≤◌, ◌<◌}
use native.Mathlib.Omega.{arith}
use lib.ListN.{length, get_or, get_or-eq_default}
use borrow.Author.Tests.{lt-ltb, le-ltb, eq-eqb, ne_eqb}
use Rattle.record.specs.Choice.{choose}
use Rattle.record.specs.Bytes.{u32_at}
use Rattle.record.specs.Form.{old, second, place_in, mate_in}
use Rattle.record.specs.Handed.{form_of, options_of}
use Rattle.record.specs.declared.form.Form.{Form}
use Rattle.record.specs.Event.{all_stored_at}
use Rattle.record.specs.Check.{refuse, count_at, first_return, judge, inside_of, end_of, event_count_of, checked_in, fronted, admitted, Reading, accept}
use Rattle.record.specs.declared.form.Handed.{Handed}
use Rattle.record.specs.declared.form.Handed.TheVariants.{Old, Second}

module _ (f : Form) (s : List ℕ) where
  pub document_misfit : None ≡ count_at s f.front 16384 1 → refuse 3 f.front ≡ checked_in f s
  unfolding checked_in
  document_misfit q = rw (← q)

  pub document_fits : (d : ℕ) → Some d ≡ count_at s f.front 16384 1 → event_count_of f s d ≡ checked_in f s
  unfolding checked_in
  document_fits d q = rw (← q)

  pub events_misfit : (d : ℕ) → None ≡ count_at s (4 + f.front + d) 2048 f.width → refuse 3 (4 + f.front + d) ≡ event_count_of f s d
  unfolding event_count_of
  events_misfit d q = rw (← q)

  pub events_fit : (d e : ℕ) → Some e ≡ count_at s (4 + f.front + d) 2048 f.width → end_of f s d e ≡ event_count_of f s d
  unfolding event_count_of
  events_fit d e q = rw (← q)

  module _ (d e : ℕ) where
    pub bytes_follow : (length s ≡ place_in f d e → ⊥) → refuse 3 (place_in f d e) ≡ end_of f s d e
    unfolding end_of choose
    bytes_follow h = rw (ne_eqb _ _ h)

    pub ends : length s ≡ place_in f d e → inside_of f s d e ≡ end_of f s d e
    unfolding end_of choose
    ends h = rw (eq-eqb _ _ h)

    pub returned : (r : ℕ) → r ≡ first_return d s (4 + f.front) → r < 4 + f.front + d → refuse 4 r ≡ inside_of f s d e
    unfolding inside_of choose
    returned r k h = rw (← k, lt-ltb _ _ h)

    pub inside : (r : ℕ) → r ≡ first_return d s (4 + f.front) → 4 + f.front + d ≤ r → judge f.width (mate_in f s d) (all_stored_at f.width e s (8 + f.front + d)) d 0 (8 + f.front + d) 0 [] [] (accept d e) ≡ inside_of f s d e
    unfolding inside_of choose
    inside r k h = rw (← k, le-ltb _ _ h)

-- the front, case by case: the options beside a record of the old form
module _ (s : List ℕ) (rest : Reading) where
  pub options_over : (options : ℕ) → 63 < options → refuse 2 0 ≡ fronted (Old options) s rest
  unfolding fronted choose
  options_over options h = rw (lt-ltb _ _ h)

  pub options_known : (options : ℕ) → options ≤ 63 → rest ≡ fronted (Old options) s rest
  unfolding fronted choose
  options_known options h = rw (le-ltb _ _ h)

  -- and the first section of form 2
  pub short_count : length s < 4 → refuse 3 0 ≡ fronted Second s rest
  unfolding fronted choose
  short_count h = rw (lt-ltb _ _ h)

  module _ (r : 4 ≤ length s) (c : ℕ) (e : c ≡ u32_at s 0) where
    pub wrong_count : (c ≡ 1 → ⊥) → refuse 2 0 ≡ fronted Second s rest
    unfolding fronted choose
    wrong_count h = rw (le-ltb _ _ r, ← e, ne_eqb _ _ h)

    module _ (one : c ≡ 1) where
      pub no_options : length s < 5 → refuse 3 0 ≡ fronted Second s rest
      unfolding fronted choose
      no_options h = rw (le-ltb _ _ r, ← e, eq-eqb _ _ one, lt-ltb _ _ h)

      pub wrong_options : 5 ≤ length s → 63 < get_or s 4 0 → refuse 2 0 ≡ fronted Second s rest
      unfolding fronted choose
      wrong_options h o = rw (le-ltb _ _ r, ← e, eq-eqb _ _ one, le-ltb _ _ h, lt-ltb _ _ o)

      pub rest_checked : 5 ≤ length s → get_or s 4 0 ≤ 63 → rest ≡ fronted Second s rest
      unfolding fronted choose
      rest_checked h o = rw (le-ltb _ _ r, ← e, eq-eqb _ _ one, le-ltb _ _ h, le-ltb _ _ o)

module _ (h : Handed) (s : List ℕ) (works : ℕ) where
  pub short_work : works < 65536 → refuse 1 0 ≡ admitted h s works
  unfolding admitted choose
  short_work l = rw (lt-ltb _ _ l)

  pub enough_work : 65536 ≤ works → fronted h s (checked_in (form_of h) s) ≡ admitted h s works
  unfolding admitted choose
  enough_work l = rw (le-ltb _ _ l)

-- however it is handed over
module _ (h : Handed) (s : List ℕ) where
  pub old_handed : (options : ℕ) → h ≡ Old options → fronted (Old options) s (checked_in old s) ≡ fronted h s (checked_in (form_of h) s)
  old_handed options q = rw q

  pub second_handed : h ≡ Second → fronted Second s (checked_in second s) ≡ fronted h s (checked_in (form_of h) s)
  second_handed q = rw q

  pub own_options : h ≡ Second → get_or s 4 0 ≡ options_of h s
  own_options q = rw q

-- past the end of a record there is nothing, which the definitions read as 0
pub no_byte : (s : List ℕ) → length s < 5 → 0 ≡ get_or s 4 0
no_byte s h = sym (get_or-eq_default s 0 {n = 4} (omega arith))
