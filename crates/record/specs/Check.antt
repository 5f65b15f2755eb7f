-- What a check of a record finds: document 01's numbers 1 to 5 in their order. specs/Rows.antt says the same as the table has it, row by row.
-- Assumes nothing.
use Rattle.std.specs.Prelude.{ℕ, zero, suc, ◌+◌, ◌*◌, Bool, true, List, [], ◌∷◌, length, get_or, leb, ltb, eqb, Option, Some, None, Result, Ok, Err}
use Rattle.record.specs.Choice.{choose, and}
use Rattle.record.specs.Bytes.{u32_at}
use Rattle.record.specs.Form.{place_in, mate_in}
use Rattle.record.specs.Handed.{form_of}
use Rattle.record.specs.declared.form.Form.{Form}
use Rattle.record.specs.Event.{Stored, all_stored_at}
use Rattle.record.specs.Stack.{innermost_of, none, fits_open, after}
use Rattle.record.specs.Sound.{placed}
use Rattle.record.specs.declared.event.Event.{Event}
use Rattle.record.specs.declared.form.Handed.{Handed}
use Rattle.record.specs.declared.form.Handed.TheVariants.{Old, Second}
use Rattle.record.specs.declared.check.Counts.{Counts}
use Rattle.record.specs.declared.check.Refusal.{Refusal}

-- what a check finds: the two counts of a good record, or the refusal, which has document 01's number and its place
abbrev pub Reading : Type 0
Reading = Result Counts Refusal

abbrev pub accept : ℕ → ℕ → Reading
accept document events = Ok (record { document = document; events = events })

abbrev pub refuse : ℕ → ℕ → Reading
refuse number place = Err (record { number = number; place = place })

-- "a count doesn't fit, is over its limit or runs past the record": a section's count fits if its four bytes are there, it is within its
-- limit, and its entries, each of `width` bytes, end within the record
unfoldable pub count_at : List ℕ → ℕ → ℕ → ℕ → Option ℕ
count_at s at limit width =
    choose
    (and (leb (at + 4) (length s)) (and (leb (u32_at s at) limit) (leb (at + 4 + width * u32_at s at) (length s))))
    (Some (u32_at s at))
    None

abbrev pub fitting : Option ℕ → Reading → (ℕ → Reading) → Reading
fitting (Some n) misfit fits = fits n
fitting None misfit fits = misfit

-- "a carriage return in the document": the place of the first among the n bytes at a place, or the place after them
unfoldable pub first_return : ℕ → List ℕ → ℕ → ℕ
first_return zero s at = at
first_return (suc n) s at = choose (eqb (get_or s at 0) 13) at (first_return n s (at + 1))

-- "bad kind, name or zero bytes; place over D or below the event before", which is `last`: whether none of these holds
unfoldable pub formed : Stored → ℕ → ℕ → Bool
formed v d last = and (eqb v.zeros 0) (placed v.what d last)

-- form 2: "5 also, at a pair's exit, .. when either partner number of the pair is untrue": a and b are the numbers that the exit k and its
-- enter i carry. Events of fewer than 12 bytes carry none
unfoldable pub paired : ℕ → ℕ → ℕ → ℕ → ℕ → Bool
paired width a b i k = choose (ltb width 12) true (and (eqb a i) (eqb b k))

-- of event k, where the enters `opens` are open
unfoldable pub truly : ℕ → (ℕ → ℕ) → Event → ℕ → List ℕ → Bool
truly width mates e k opens = choose (eqb e.kind 0) true (paired width (mates k) (mates (innermost_of opens)) (innermost_of opens) k)

-- the events one by one, the first of them at a place of the record: the first that breaks a rule is refused there, and where none does,
-- events left open are refused at the record's end. Amendment D18: the standard sets no limit to depth
unfoldable pub judge : ℕ → (ℕ → ℕ) → List Stored → ℕ → ℕ → ℕ → ℕ → List ℕ → List ℕ → Reading → Reading
judge width mates [] d k at last held opens good = choose (none held) good (refuse 5 at)
judge width mates (v ∷ vs) d k at last held opens good =
    choose (and (formed v d last) (and (fits_open 64 v.what held) (truly width mates v.what k opens)))
    (judge width mates vs d (k + 1) (at + width) v.what.place (after v.what v.what.name held) (after v.what k opens) good)
    (refuse 5 at)

-- numbers 4 and 5, where both counts fit and nothing follows
unfoldable pub inside_of : Form → List ℕ → ℕ → ℕ → Reading
inside_of f s d e =
    choose (ltb (first_return d s (4 + f.front)) (4 + f.front + d))
    (refuse 4 (first_return d s (4 + f.front)))
    (judge f.width (mate_in f s d) (all_stored_at f.width e s (8 + f.front + d)) d 0 (8 + f.front + d) 0 [] [] (accept d e))

-- "bytes follow the last section"
unfoldable pub end_of : Form → List ℕ → ℕ → ℕ → Reading
end_of f s d e = choose (eqb (length s) (place_in f d e)) (inside_of f s d e) (refuse 3 (place_in f d e))

-- Amendment D18 here and in `checked_in`: the standard sets no limit to a document or its events
unfoldable pub event_count_of : Form → List ℕ → ℕ → Reading
event_count_of f s d = fitting (count_at s (4 + f.front + d) 2048 f.width) (refuse 3 (4 + f.front + d)) (λ e. end_of f s d e)

-- "First the document: count D, D bytes. Then the events: count E, E events of 8 bytes"
unfoldable pub checked_in : Form → List ℕ → Reading
checked_in f s = fitting (count_at s f.front 16384 1) (refuse 3 f.front) (λ d. event_count_of f s d)

-- what comes before the document's count. Beside the old form there are the options: "options over 63". Form 2 has them in a first section: "2 also for a
-- count other than 1 or a byte over 63 in the first section". A count other than 1 is refused even where no byte follows it
unfoldable pub fronted : Handed → List ℕ → Reading → Reading
fronted (Old options) s rest = choose (ltb 63 options) (refuse 2 0) rest
fronted Second s rest =
    choose (ltb (length s) 4) (refuse 3 0)
    (choose (eqb (u32_at s 0) 1)
    (choose (ltb (length s) 5) (refuse 3 0)
    (choose (ltb 63 (get_or s 4 0)) (refuse 2 0)
    rest))
    (refuse 2 0))

-- "work memory under 65,536 bytes", then the front, then the record
unfoldable pub admitted : Handed → List ℕ → ℕ → Reading
admitted h s works = choose (ltb works 65536) (refuse 1 0) (fronted h s (checked_in (form_of h) s))
