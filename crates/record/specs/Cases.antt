-- The check, computed: the whole case of document 01 and a few refusals at the smallest records that show them.
-- Assumes nothing.
use Rattle.std.specs.Prelude.{◌≡◌, refl, List, [], ◌∷◌, ◌++◌, map, ℕ, ◌/◌, ◌%◌, length, get_or}
use Rattle.record.specs.Choice.{choose, and}
use Rattle.record.specs.Bytes.{u32_at, u32_bytes}
use Rattle.record.specs.Form.{old}
use Rattle.record.specs.Event.{stored_at, enter, exit, flat, all_stored_at}
use Rattle.record.specs.Partners.{flat_with}
use Rattle.record.specs.Stack.{fits_open, after}
use Rattle.record.specs.Sound.{placed}
use Rattle.record.specs.Check.{refuse, count_at, first_return, formed, paired, truly, judge, inside_of, end_of, event_count_of, checked_in, fronted, admitted, Reading, accept}
use Rattle.record.specs.declared.event.Event.{Event}
use Rattle.record.specs.declared.form.Handed.TheVariants.{Second}

-- "u32 little endian": four bytes that differ, each in its place. With the laws of specs/ReadsBack.antt this fixes the writer's too
lowest_first : (u32_at (1 ∷ 2 ∷ 3 ∷ 4 ∷ []) 0 ≡ 67305985) × (u32_bytes 67305985 ≡ 1 ∷ 2 ∷ 3 ∷ 4 ∷ [])
lowest_first = (refl, refl)

-- and so of every number: its bytes are what is left of it, by 256 and the powers of 256
each_byte : (n : ℕ) → (get_or (u32_bytes n) 0 0 ≡ n % 256) × (get_or (u32_bytes n) 1 0 ≡ n / 256 % 256) × (get_or (u32_bytes n) 2 0 ≡ n / 65536 % 256)
    × (get_or (u32_bytes n) 3 0 ≡ n / 16777216 % 256)
each_byte n = (refl, refl, refl, refl)

-- "kind (0 enter, 1 exit), name, two zero bytes, place", byte by byte
by_bytes : stored_at (1 ∷ 2 ∷ 3 ∷ 4 ∷ 5 ∷ 6 ∷ 7 ∷ 8 ∷ []) 0
    ≡ record { what = record { kind = 1; name = 2; place = 134678021 }; zeros = 1027 }
by_bytes = refl

-- a record and what its check finds
pub record Case : Type 0 where
  pub bytes : List ℕ
  pub found : Reading

abbrev pub case : List ℕ → Reading → Case
case s r = record { bytes = s; found = r }

unfoldable pub cases : List Case
cases =
    -- `*a*` with +1@0, -1@1, +0@1, -0@2, +1@2, -1@3
    case (u32_bytes 3 ++ (42 ∷ 97 ∷ 42 ∷ u32_bytes 6) ++ flat (enter 1 0 ∷ exit 1 1 ∷ enter 0 1 ∷ exit 0 2 ∷ enter 1 2 ∷ exit 1 3 ∷ [])) (accept 3 6)
    -- three bytes; a document that runs past by one; no second count; counts as large as can be; a byte too many
    ∷ case (0 ∷ 0 ∷ 0 ∷ []) (refuse 3 0)
    ∷ case (u32_bytes 5 ++ (97 ∷ 98 ∷ 99 ∷ 100 ∷ [])) (refuse 3 0)
    ∷ case (u32_bytes 1 ++ (97 ∷ [])) (refuse 3 5)
    ∷ case (u32_bytes 4294967295) (refuse 3 0)
    ∷ case (u32_bytes 0 ++ u32_bytes 4294967295) (refuse 3 4)
    ∷ case (u32_bytes 0 ++ u32_bytes 0 ++ (0 ∷ [])) (refuse 3 8)
    -- a carriage return and a bad event: 4 comes first; a carriage return and a byte too many: 3 does
    ∷ case (u32_bytes 1 ++ (13 ∷ u32_bytes 1) ++ flat (exit 0 0 ∷ [])) (refuse 4 4)
    ∷ case (u32_bytes 1 ++ (13 ∷ u32_bytes 0) ++ (0 ∷ [])) (refuse 3 9)
    -- an exit of another name; one left open, at the record's end
    ∷ case (u32_bytes 0 ++ u32_bytes 2 ++ flat (enter 0 0 ∷ exit 2 0 ∷ [])) (refuse 5 16)
    ∷ case (u32_bytes 0 ++ u32_bytes 1 ++ flat (enter 0 0 ∷ [])) (refuse 5 16)
    ∷ []

pub computed : map (λ (c : Case). checked_in old c.bytes) cases ≡ map (λ (c : Case). c.found) cases
unfolding cases flat checked_in count_at event_count_of end_of inside_of first_return all_stored_at judge paired truly formed placed fits_open after choose and
computed = refl

-- a record of form 2 without a document: some events, and the number that each carries
abbrev pub carrying : List Event → List ℕ → List ℕ
carrying es numbers = u32_bytes 1 ++ (0 ∷ u32_bytes 0 ++ u32_bytes (length es) ++ flat_with es numbers)

-- form 2: the first section, what it does to the places behind it, and partner numbers
unfoldable pub fronts : List Case
fronts =
    -- under four bytes; a count of 1 and nothing more; another count, whatever follows; an option byte over 63
    case [] (refuse 3 0)
    ∷ case (2 ∷ 0 ∷ 0 ∷ []) (refuse 3 0)
    ∷ case (u32_bytes 1) (refuse 3 0)
    ∷ case (u32_bytes 0) (refuse 2 0)
    ∷ case (u32_bytes 2) (refuse 2 0)
    ∷ case (u32_bytes 257 ++ (0 ∷ u32_bytes 0 ++ u32_bytes 0)) (refuse 2 0)
    ∷ case (u32_bytes 1 ++ (64 ∷ [])) (refuse 2 0)
    -- no document's count, no events' count, a byte too many
    ∷ case (u32_bytes 1 ++ (63 ∷ [])) (refuse 3 5)
    ∷ case (u32_bytes 1 ++ (0 ∷ u32_bytes 0)) (refuse 3 9)
    ∷ case (u32_bytes 1 ++ (0 ∷ u32_bytes 0 ++ u32_bytes 0 ++ (0 ∷ []))) (refuse 3 13)
    -- a pair that is true; the enter's number untrue; the exit's; an enter left open, whatever its number
    ∷ case (carrying (enter 0 0 ∷ exit 0 0 ∷ []) (1 ∷ 0 ∷ [])) (accept 0 2)
    ∷ case (carrying (enter 0 0 ∷ exit 0 0 ∷ []) (0 ∷ 0 ∷ [])) (refuse 5 25)
    ∷ case (carrying (enter 0 0 ∷ exit 0 0 ∷ []) (1 ∷ 1 ∷ [])) (refuse 5 25)
    ∷ case (carrying (enter 0 0 ∷ []) (0 ∷ [])) (refuse 5 25)
    -- true but for a higher byte
    ∷ case (carrying (enter 0 0 ∷ exit 0 0 ∷ []) (257 ∷ 0 ∷ [])) (refuse 5 25)
    ∷ case (carrying (enter 0 0 ∷ exit 0 0 ∷ []) (65537 ∷ 0 ∷ [])) (refuse 5 25)
    ∷ case (carrying (enter 0 0 ∷ exit 0 0 ∷ []) (1 ∷ 16777216 ∷ [])) (refuse 5 25)
    -- the second of two pairs untrue; of a pair within another the inner one, and the outer one, which is found at its exit
    ∷ case (carrying (enter 0 0 ∷ exit 0 0 ∷ enter 0 0 ∷ exit 0 0 ∷ []) (1 ∷ 0 ∷ 3 ∷ 0 ∷ [])) (refuse 5 49)
    ∷ case (carrying (enter 0 0 ∷ enter 0 0 ∷ exit 0 0 ∷ exit 0 0 ∷ []) (3 ∷ 3 ∷ 1 ∷ 0 ∷ [])) (refuse 5 37)
    ∷ case (carrying (enter 0 0 ∷ enter 0 0 ∷ exit 0 0 ∷ exit 0 0 ∷ []) (2 ∷ 2 ∷ 1 ∷ 0 ∷ [])) (refuse 5 49)
    -- an untrue pair and then a name over 24; and that name within an untrue pair
    ∷ case (carrying (enter 0 0 ∷ exit 0 0 ∷ enter 25 0 ∷ exit 25 0 ∷ []) (9 ∷ 0 ∷ 3 ∷ 2 ∷ [])) (refuse 5 25)
    ∷ case (carrying (enter 0 0 ∷ enter 25 0 ∷ exit 25 0 ∷ exit 0 0 ∷ []) (9 ∷ 2 ∷ 1 ∷ 0 ∷ [])) (refuse 5 25)
    ∷ []

pub fronts_computed : map (λ (c : Case). admitted Second c.bytes 65536) fronts ≡ map (λ (c : Case). c.found) fronts
unfolding fronts flat_with admitted fronted checked_in count_at event_count_of end_of inside_of first_return all_stored_at judge paired truly formed placed fits_open after choose and
fronts_computed = refl
