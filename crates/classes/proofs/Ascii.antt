-- The table of ASCII characters is right where each entry is, and the standard's lists of ASCII characters are its categories, both by a test at each of 128.
-- Assumes nothing.
use Prim.Native.Nat.{ℕ, ◌<◌, ◌≤◌}
use mathlib.Core.Path.{◌≡◌, refl, ◌∙◌}
use mathlib.Core.Bool.{Bool, true, false, cond, ◌||◌}
use mathlib.Core.List.{List}
use native.Mathlib.Omega.{arith}
use lib.Dec.{T, leb}
use lib.ListN.{length, get_or}
use borrow.Author.Tests.{ne_eqb, le-leb, leb-true, leb-false}
use Rattle.characters.specs.Ranges.{member}
use Rattle.characters.specs.Tables.{punctuation_ranges, space_ranges}
use Rattle.classes.specs.Class.{whitespace, punctuation, replaced, ascii_class, wide_class, standard_class, amended, class_of, class_by_bytes}
use Rattle.classes.specs.Laws.{unicode_whitespace, unicode_punctuation, ByCategories, AsciiAsByBytes, asked, AsAsked}
use Rattle.classes.specs.Lent.{AsciiTable}
use Rattle.classes.specs.declared.Class.{Class}
use Rattle.classes.specs.declared.Class.TheVariants.{Other, Whitespace, Punctuation}
use Rattle.characters.proofs.Table.{below, all_below}
use Rattle.classes.proofs.Wide.{by_ranges}

-- whether two classes are one
abbrev pub same : Class → Class → Bool
same Other Other = true
same Whitespace Whitespace = true
same Punctuation Punctuation = true
same k l = false

same_is : (k l : Class) → T (same k l) → k ≡ l
same_is Other Other t = refl
same_is Other Whitespace t = absurd t
same_is Other Punctuation t = absurd t
same_is Whitespace Other t = absurd t
same_is Whitespace Whitespace t = refl
same_is Whitespace Punctuation t = absurd t
same_is Punctuation Other t = absurd t
same_is Punctuation Whitespace t = absurd t
same_is Punctuation Punctuation t = refl

-- an entry is its character's class
unfoldable pub right : List Class → ℕ → Bool
right xs c = same (get_or xs c Other) (class_of c)

pub table_of : (xs : List Class) → length xs ≡ 128 → T (below (right xs) 128) → AsciiTable xs
unfolding right
table_of xs n t = record { size = n; entries = λ c h. same_is (get_or xs c Other) (class_of c) (all_below (right xs) 128 t c h) }

-- the class by the categories alone
abbrev categorised : ℕ → Class
categorised c = cond (unicode_whitespace c) Whitespace (cond (unicode_punctuation c || replaced c) Punctuation Other)

unfoldable agrees : ℕ → Bool
agrees c = same (ascii_class c) (categorised c)

on_ascii : (c : ℕ) → c < 128 → ascii_class c ≡ categorised c
unfolding agrees ascii_class whitespace punctuation member space_ranges punctuation_ranges
on_ascii c h = same_is (ascii_class c) (categorised c) (all_below agrees 128 tt c h)

or_false : (b : Bool) → b || false ≡ b
or_false true = refl
or_false false = refl

past_ascii : (c : ℕ) → 128 ≤ c → wide_class c ≡ categorised c
unfolding wide_class
past_ascii c h =
    rw (
      ne_eqb c 9 (λ e. omega arith),
      ne_eqb c 10 (λ e. omega arith),
      ne_eqb c 12 (λ e. omega arith),
      ne_eqb c 13 (λ e. omega arith),
      ne_eqb c 0 (λ e. omega arith),
      or_false (member space_ranges c),
      or_false (member punctuation_ranges c),
    )

pub by_categories : ByCategories
unfolding standard_class
by_categories c = go (leb 128 c) refl
  where
    go : (z : Bool) → leb 128 c ≡ z → standard_class c ≡ categorised c
    go true e = rw e (past_ascii c (leb-true 128 c e))
    go false e = rw e (on_ascii c (leb-false 128 c e))

unfoldable same_byte : ℕ → Bool
same_byte c = same (class_of c) (class_by_bytes c)

pub ascii_as_by_bytes : AsciiAsByBytes
unfolding same_byte class_of standard_class ascii_class amended whitespace punctuation class_by_bytes
ascii_as_by_bytes c h = same_is (class_of c) (class_by_bytes c) (all_below same_byte 128 tt c h)

-- and a byte from 128 up was other
pub high_by_bytes : (c : ℕ) → 128 ≤ c → class_by_bytes c ≡ Other
unfolding class_by_bytes
high_by_bytes c h = simp (ne_eqb c 13 (λ e. omega arith), le-leb 128 c h)

unfoldable as_asked_at : ℕ → Bool
as_asked_at c = same (class_of c) (asked c)

asked_ascii : (c : ℕ) → c < 128 → class_of c ≡ asked c
unfolding as_asked_at class_of standard_class ascii_class amended whitespace punctuation member space_ranges punctuation_ranges
asked_ascii c h = same_is (class_of c) (asked c) (all_below as_asked_at 128 tt c h)

asked_wide : (c : ℕ) → 128 ≤ c → class_of c ≡ asked c
unfolding wide_class
asked_wide c h =
    by_ranges c h ∙ rw (ne_eqb c 9 (λ e. omega arith), ne_eqb c 10 (λ e. omega arith), ne_eqb c 12 (λ e. omega arith), or_false (member space_ranges c))

pub as_asked : AsAsked
as_asked c = go (leb 128 c) refl
  where
    go : (z : Bool) → leb 128 c ≡ z → class_of c ≡ asked c
    go true e = asked_wide c (leb-true 128 c e)
    go false e = asked_ascii c (leb-false 128 c e)
