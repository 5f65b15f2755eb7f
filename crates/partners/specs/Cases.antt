-- Partners computed, a section in both forms, and a record of form 2 with its check.
-- Assumes nothing.
use Rattle.std.specs.Prelude.{◌≡◌, refl, List, [], ◌∷◌, ◌++◌, ℕ}
use Rattle.record.specs.Bytes.{u32_bytes}
use Rattle.record.specs.Check.{refuse, count_at, first_return, formed, paired, truly, judge, inside_of, end_of, event_count_of, checked_in, fronted, admitted, accept}
use Rattle.record.specs.Choice.{choose, and}
use Rattle.record.specs.Event.{enter, exit, flat, section_bytes, all_stored_at}
use Rattle.record.specs.Form.{old, second}
use Rattle.record.specs.Sound.{placed}
use Rattle.record.specs.Stack.{fits_open, after}
use Rattle.record.specs.Partners.{closing, partners_from, partners, flat_with, flat_linked, section_in, front_in, record_in}
use Rattle.record.specs.declared.form.Handed.TheVariants.{Second}

-- two pairs side by side in a third: `+2 +0 -0 +0 -0 -2`
side_by_side : partners (enter 2 0 ∷ enter 0 1 ∷ exit 0 2 ∷ enter 0 2 ∷ exit 0 3 ∷ exit 2 3 ∷ []) ≡ 5 ∷ 2 ∷ 1 ∷ 4 ∷ 3 ∷ 0 ∷ []
unfolding closing partners_from after choose
side_by_side = refl

-- three deep, and a pair beside them: `+5 +7 +0 -0 -7 -5 +1 -1`
three_deep : partners (enter 5 0 ∷ enter 7 0 ∷ enter 0 0 ∷ exit 0 1 ∷ exit 7 1 ∷ exit 5 1 ∷ enter 1 1 ∷ exit 1 2 ∷ []) ≡ 5 ∷ 4 ∷ 3 ∷ 2 ∷ 1 ∷ 0 ∷ 7 ∷ 6 ∷ []
unfolding closing partners_from after choose
three_deep = refl

-- a pair in the second form: the count, and behind the eight bytes of each the other's number
one_pair : section_in second (enter 0 0 ∷ exit 0 1 ∷ [])
    ≡ 2 ∷ 0 ∷ 0 ∷ 0 ∷ 0 ∷ 0 ∷ 0 ∷ 0 ∷ 0 ∷ 0 ∷ 0 ∷ 0 ∷ 1 ∷ 0 ∷ 0 ∷ 0 ∷ 1 ∷ 0 ∷ 0 ∷ 0 ∷ 1 ∷ 0 ∷ 0 ∷ 0 ∷ 0 ∷ 0 ∷ 0 ∷ 0 ∷ []
unfolding closing partners_from flat_with flat_linked section_in after choose
one_pair = refl

-- and in the old form
one_pair_old : section_in old (enter 0 0 ∷ exit 0 1 ∷ [])
    ≡ 2 ∷ 0 ∷ 0 ∷ 0 ∷ 0 ∷ 0 ∷ 0 ∷ 0 ∷ 0 ∷ 0 ∷ 0 ∷ 0 ∷ 1 ∷ 0 ∷ 0 ∷ 0 ∷ 1 ∷ 0 ∷ 0 ∷ 0 ∷ []
unfolding flat section_bytes section_in choose
one_pair_old = refl

-- a record of `a` and that pair, with any options: the count 1, the option byte, the document, the section. `mate` is what the exit says of its partner
abbrev one_record : ℕ → ℕ → List ℕ
one_record options mate =
    (1 ∷ 0 ∷ 0 ∷ 0 ∷ options ∷ [])
    ++ ((1 ∷ 0 ∷ 0 ∷ 0 ∷ 97 ∷ [])
    ++ ((2 ∷ 0 ∷ 0 ∷ 0 ∷ [])
    ++ ((0 ∷ 0 ∷ 0 ∷ 0 ∷ 0 ∷ 0 ∷ 0 ∷ 0 ∷ 1 ∷ 0 ∷ 0 ∷ 0 ∷ [])
    ++ (1 ∷ 0 ∷ 0 ∷ 0 ∷ 1 ∷ 0 ∷ 0 ∷ 0 ∷ u32_bytes mate))))

record_second : (options : ℕ) → record_in second options (97 ∷ []) (enter 0 0 ∷ exit 0 1 ∷ []) ≡ one_record options 0
unfolding closing partners_from flat_with flat_linked section_in front_in record_in after choose
record_second options = refl

-- it is good, and with an untrue number refused at the exit, event 1: 13 + 1 + 12
checked_second : (admitted Second (one_record 5 0) 65536 ≡ accept 1 2) × (admitted Second (one_record 5 1) 65536 ≡ refuse 5 26)
unfolding admitted fronted checked_in count_at event_count_of end_of inside_of first_return all_stored_at judge paired truly formed placed fits_open after choose and
checked_second = (refl, refl)
