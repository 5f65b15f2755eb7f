-- What the table of well-formed bytes comes to, by how many bytes there are: bounds of each byte, and of what the bits make. The code tests these.
-- Assumes nothing.
use Prim.Native.Nat.{ℕ, zero, suc, ◌+◌, ◌-◌, ◌*◌, ◌≤◌, ◌<◌}
use mathlib.Core.Path.{◌≡◌, refl, sym, ap, ◌∙◌}
use mathlib.Core.Bool.{Bool, true, false, cond, ◌&&◌, ◌||◌, true≢false}
use mathlib.Core.List.{List, [], ◌∷◌}
use mathlib.Core.Logic.{⊎_elim}
use Rattle.std.specs.Prelude.{Option, None, Some, SomeIff, MatchOption}
use Rattle.std.specs.Char.{IsScalar, InScalarRange, OutOfScalarRange}
use native.Mathlib.Omega.{arith}
use native.Mathlib.Decide.{dec_le}
use native.Mathlib.Nat.{lt_of_not-le}
use lib.Dec.{leb, ltb, eqb}
use lib.ListN.{length, get_or}
use borrow.Author.Tests.{leb-true, le-leb}
use Rattle.characters.specs.Utf8.{well_formed_rows, fits, fits_one, well_formed, value_of, character_of, is_character}
use Rattle.std.proofs.lemmas.Bool.Decides.{nat_tests}
use Rattle.characters.specs.Ranges.{within}

pub both : (p q : Bool) → p && q ≡ true → (p ≡ true) × (q ≡ true)
both true true e = (refl, refl)
both true false e = absurd (true≢false (sym e))
both false q e = absurd (true≢false (sym e))

either : (p : Bool) → p || true ≡ true
either true = refl
either false = refl

-- a row of the table as bounds of as many bytes
abbrev Bounded : List ℕ → List ℕ → Type 0
Bounded [] [] = Unit {0}
Bounded [] (b ∷ bs) = ⊥
Bounded (least ∷ []) bs = ⊥
Bounded (least ∷ most ∷ row) [] = ⊥
Bounded (least ∷ most ∷ row) (b ∷ bs) = (least ≤ b) × (b ≤ most) × Bounded row bs

fits_bounded : (row bs : List ℕ) → fits row bs ≡ true → Bounded row bs
unfolding fits
fits_bounded [] [] e = tt
fits_bounded [] (b ∷ bs) e = true≢false (sym e)
fits_bounded (least ∷ []) bs e = true≢false (sym e)
fits_bounded (least ∷ most ∷ row) [] e = true≢false (sym e)
fits_bounded (least ∷ most ∷ row) (b ∷ bs) e =
    let h : (leb least b && leb b most ≡ true) × (fits row bs ≡ true) = both _ _ e in
    let g : (leb least b ≡ true) × (leb b most ≡ true) = both _ _ h.0 in
    (leb-true least b g.0, leb-true b most g.1, fits_bounded row bs h.1)

bounded_fits : (row bs : List ℕ) → Bounded row bs → fits row bs ≡ true
unfolding fits
bounded_fits [] [] w = refl
bounded_fits [] (b ∷ bs) w = absurd w
bounded_fits (least ∷ []) bs w = absurd w
bounded_fits (least ∷ most ∷ row) [] w = absurd w
bounded_fits (least ∷ most ∷ row) (b ∷ bs) w = rw (le-leb least b w.0, le-leb b most w.1, bounded_fits row bs w.2)

-- the row is of as many bytes
abbrev sized : List ℕ → List ℕ → Bool
sized [] [] = true
sized [] (b ∷ bs) = false
sized (least ∷ []) bs = false
sized (least ∷ most ∷ row) [] = false
sized (least ∷ most ∷ row) (b ∷ bs) = sized row bs

bounded_sized : (row bs : List ℕ) → Bounded row bs → sized row bs ≡ true
bounded_sized [] [] w = refl
bounded_sized [] (b ∷ bs) w = absurd w
bounded_sized (least ∷ []) bs w = absurd w
bounded_sized (least ∷ most ∷ row) [] w = absurd w
bounded_sized (least ∷ most ∷ row) (b ∷ bs) w = bounded_sized row bs w.2

-- what follows from the bounds of each row of as many bytes follows where one row fits
abbrev Each : List (List ℕ) → List ℕ → Type 0 → Type 0
Each [] bs P = Unit {0}
Each (row ∷ rows) bs P = cond (sized row bs) ((Bounded row bs → P) × Each rows bs P) (Each rows bs P)

of_first : (z : Bool) (A B : Type 0) → z ≡ true → cond z (A × B) B → A
of_first true A B e p = p.0
of_first false A B e p = absurd (true≢false (sym e))

of_rest : (z : Bool) (A B : Type 0) → cond z (A × B) B → B
of_rest true A B p = p.1
of_rest false A B p = p

by_rows : (rows : List (List ℕ)) (bs : List ℕ) (P : Type 0) → Each rows bs P → fits_one rows bs ≡ true → P
unfolding fits_one
by_rows [] bs P f e = absurd (true≢false (sym e))
by_rows (row ∷ rows) bs P f e = go (fits row bs) refl (by_rows rows bs P (of_rest (sized row bs) (Bounded row bs → P) (Each rows bs P) f))
  where
    go : (z : Bool) → fits row bs ≡ z → (fits_one rows bs ≡ true → P) → P
    go true h rest =
        let w : Bounded row bs = fits_bounded row bs h in
        of_first (sized row bs) (Bounded row bs → P) (Each rows bs P) (bounded_sized row bs w) f w
    go false h rest = rest (rw h at e)

-- and the row that fits may be named
row_fits : (rows : List (List ℕ)) (bs : List ℕ) (k : ℕ) → k < length rows → Bounded (get_or rows k []) bs → fits_one rows bs ≡ true
unfolding fits_one
row_fits [] bs k h w = absurd (omega arith)
row_fits (row ∷ rows) bs zero h w = rw (bounded_fits row bs w)
row_fits (row ∷ rows) bs (suc k) h w = rw (row_fits rows bs k (omega arith) w) (either (fits row bs))

-- the bounds of the byte that leads n bytes, and of one that follows
abbrev pub Lead : ℕ → ℕ → Type 0
Lead zero a = ⊥
Lead (suc zero) a = a ≤ 127
Lead (suc (suc zero)) a = (194 ≤ a) × (a ≤ 223)
Lead (suc (suc (suc zero))) a = (224 ≤ a) × (a ≤ 239)
Lead (suc (suc (suc (suc zero)))) a = (240 ≤ a) × (a ≤ 244)
Lead (suc (suc (suc (suc (suc n))))) a = ⊥

abbrev pub Follower : ℕ → Type 0
Follower b = (128 ≤ b) × (b ≤ 191)

pub record Two (a b : ℕ) : Type 0 where
  pub lead : Lead 2 a
  pub second : Follower b

-- of three bytes and of four, what is longer than it has to be, a surrogate or past 10FFFF is seen in what the bits make
abbrev pub three_bits : ℕ → ℕ → ℕ → ℕ
three_bits a b d = (a - 224) * 4096 + (b - 128) * 64 + (d - 128)

abbrev pub four_bits : ℕ → ℕ → ℕ → ℕ → ℕ
four_bits a b d e = (a - 240) * 262144 + (b - 128) * 4096 + (d - 128) * 64 + (e - 128)

pub record Three (a b d : ℕ) : Type 0 where
  pub lead : Lead 3 a
  pub second : Follower b
  pub third : Follower d
  pub long : 2048 ≤ three_bits a b d
  pub beyond : 55296 ≤ three_bits a b d → 57344 ≤ three_bits a b d

pub record Four (a b d e : ℕ) : Type 0 where
  pub lead : Lead 4 a
  pub second : Follower b
  pub third : Follower d
  pub fourth : Follower e
  pub long : 65536 ≤ four_bits a b d e
  pub short : four_bits a b d e ≤ 1114111

-- the form of a character has one to four bytes
abbrev pub Shape : List ℕ → Type 0
Shape [] = ⊥
Shape (a ∷ []) = Lead 1 a
Shape (a ∷ b ∷ []) = Two a b
Shape (a ∷ b ∷ d ∷ []) = Three a b d
Shape (a ∷ b ∷ d ∷ e ∷ []) = Four a b d e
Shape (a ∷ b ∷ d ∷ e ∷ f ∷ bs) = ⊥

well_shape : (bs : List ℕ) → well_formed bs ≡ true → Shape bs
unfolding well_formed well_formed_rows
well_shape [] h = by_rows well_formed_rows [] ⊥ tt h
well_shape (a ∷ []) h = by_rows well_formed_rows (a ∷ []) (Lead 1 a) (λ w. omega arith, tt) h
well_shape (a ∷ b ∷ []) h = by_rows well_formed_rows (a ∷ b ∷ []) (Two a b) (λ w. omega arith, tt) h
well_shape (a ∷ b ∷ d ∷ []) h =
    by_rows well_formed_rows (a ∷ b ∷ d ∷ []) (Three a b d) (λ w. omega arith, (λ w. omega arith, (λ w. omega arith, (λ w. omega arith, tt)))) h
well_shape (a ∷ b ∷ d ∷ e ∷ []) h =
    by_rows well_formed_rows (a ∷ b ∷ d ∷ e ∷ []) (Four a b d e) (λ w. omega arith, (λ w. omega arith, (λ w. omega arith, tt))) h
well_shape (a ∷ b ∷ d ∷ e ∷ f ∷ bs) h = by_rows well_formed_rows (a ∷ b ∷ d ∷ e ∷ f ∷ bs) ⊥ tt h

-- of three bytes and of four, the lead says which row fits
three_rows : (a b d : ℕ) → Three a b d → Dec (a ≤ 224) → Dec (a ≤ 236) → Dec (a ≤ 237) → fits_one well_formed_rows (a ∷ b ∷ d ∷ []) ≡ true
unfolding well_formed_rows
three_rows a b d w (yes p) q r = row_fits well_formed_rows (a ∷ b ∷ d ∷ []) 2 (omega arith) (omega arith)
three_rows a b d w (no p) (yes q) r = row_fits well_formed_rows (a ∷ b ∷ d ∷ []) 3 (omega arith) (omega arith)
three_rows a b d w (no p) (no q) (yes r) =
    let h : b < 160 = lt_of_not-le (λ g. let far : 57344 ≤ three_bits a b d = w.beyond (omega arith) in omega arith) in
    row_fits well_formed_rows (a ∷ b ∷ d ∷ []) 4 (omega arith) (omega arith)
three_rows a b d w (no p) (no q) (no r) = row_fits well_formed_rows (a ∷ b ∷ d ∷ []) 5 (omega arith) (omega arith)

four_rows : (a b d e : ℕ) → Four a b d e → Dec (a ≤ 240) → Dec (a ≤ 243) → fits_one well_formed_rows (a ∷ b ∷ d ∷ e ∷ []) ≡ true
unfolding well_formed_rows
four_rows a b d e w (yes p) q = row_fits well_formed_rows (a ∷ b ∷ d ∷ e ∷ []) 6 (omega arith) (omega arith)
four_rows a b d e w (no p) (yes q) = row_fits well_formed_rows (a ∷ b ∷ d ∷ e ∷ []) 7 (omega arith) (omega arith)
four_rows a b d e w (no p) (no q) = row_fits well_formed_rows (a ∷ b ∷ d ∷ e ∷ []) 8 (omega arith) (omega arith)

shape_well : (bs : List ℕ) → Shape bs → well_formed bs ≡ true
unfolding well_formed well_formed_rows
shape_well [] w = absurd w
shape_well (a ∷ []) w = row_fits well_formed_rows (a ∷ []) 0 (omega arith) (omega arith)
shape_well (a ∷ b ∷ []) w = row_fits well_formed_rows (a ∷ b ∷ []) 1 (omega arith) (omega arith)
shape_well (a ∷ b ∷ d ∷ []) w = three_rows a b d w (dec_le a 224) (dec_le a 236) (dec_le a 237)
shape_well (a ∷ b ∷ d ∷ e ∷ []) w = four_rows a b d e w (dec_le a 240) (dec_le a 243)
shape_well (a ∷ b ∷ d ∷ e ∷ f ∷ bs) w = absurd w

pub never : (c : ℕ) → ◌≡◌ {A = Option ℕ} (Some c) None → ⊥
never c e = let z : ◌≡◌ {A = ℕ} 0 1 = cc in omega arith

-- what is found in some bytes, by their shape
pub no_form : (bs : List ℕ) → (Shape bs → ⊥) → character_of bs ≡ None
unfolding character_of
no_form bs none_has = go (well_formed bs) refl
  where
    go : (z : Bool) → well_formed bs ≡ z → character_of bs ≡ None
    go true e = absurd (none_has (well_shape bs e))
    go false e = rw e

pub form : (bs : List ℕ) → Shape bs → character_of bs ≡ Some (value_of bs)
unfolding character_of
form bs w = rw (shape_well bs w)

pub form_shape : (bs : List ℕ) (c : ℕ) → character_of bs ≡ Some c → Shape bs
unfolding character_of
form_shape bs c h = go (well_formed bs) refl
  where
    go : (z : Bool) → well_formed bs ≡ z → Shape bs
    go true e = well_shape bs e
    go false e = absurd (never c (sym (rw e at h)))

pub form_value : (bs : List ℕ) (c : ℕ) → character_of bs ≡ Some c → value_of bs ≡ c
form_value bs c h = let e : character_of bs ≡ Some (value_of bs) = form bs (form_shape bs c h) in cc

-- the same as tests of how many bytes there are and what each is
abbrev follows : ℕ → Bool
follows b = within 128 191 b

abbrev two_bits : ℕ → ℕ → ℕ
two_bits a b = (a - 192) * 64 + (b - 128)

abbrev leads : List ℕ → ℕ → ℕ → ℕ → Bool
leads bs n least most = eqb (length bs) n && within least most (get_or bs 0 0)

abbrev tested : List ℕ → Option ℕ
tested bs =
    let a = get_or bs 0 0 in
    let b = get_or bs 1 0 in
    let d = get_or bs 2 0 in
    let e = get_or bs 3 0 in
    let three = three_bits a b d in
    let four = four_bits a b d e in
    cond (leads bs 1 0 127) (Some a)
    (cond (leads bs 2 194 223 && follows b) (Some (two_bits a b))
    (cond (leads bs 3 224 239 && (follows b && (follows d && (leb 2048 three && (ltb three 55296 || leb 57344 three))))) (Some three)
    (cond (leads bs 4 240 244 && (follows b && (follows d && (follows e && (leb 65536 four && leb four 1114111))))) (Some four) None)))

shape_tested : (bs : List ℕ) → Shape bs → Some (value_of bs) ≡ tested bs
unfolding value_of
shape_tested [] w = absurd w
shape_tested (a ∷ []) w = grind (arith, nat_tests)
shape_tested (a ∷ b ∷ []) w = grind (arith, nat_tests, w)
shape_tested (a ∷ b ∷ d ∷ []) w = grind (arith, nat_tests, w)
shape_tested (a ∷ b ∷ d ∷ e ∷ []) w = grind (arith, nat_tests, w)
shape_tested (a ∷ b ∷ d ∷ e ∷ f ∷ bs) w = absurd w

tested_shape : (bs : List ℕ) (c : ℕ) → tested bs ≡ Some c → Shape bs
tested_shape [] c q = grind (arith, nat_tests)
tested_shape (a ∷ []) c q = grind (arith, nat_tests)
tested_shape (a ∷ b ∷ []) c q = record { lead = grind (arith, nat_tests); second = grind (arith, nat_tests) }
tested_shape (a ∷ b ∷ d ∷ []) c q = record { lead = grind (arith, nat_tests); second = grind (arith, nat_tests); third = grind (arith, nat_tests); long = grind (arith, nat_tests); beyond = λ h. grind (arith, nat_tests) }
tested_shape (a ∷ b ∷ d ∷ e ∷ []) c q = record { lead = grind (arith, nat_tests); second = grind (arith, nat_tests); third = grind (arith, nat_tests); fourth = grind (arith, nat_tests); long = grind (arith, nat_tests); short = grind (arith, nat_tests) }
tested_shape (a ∷ b ∷ d ∷ e ∷ f ∷ bs) c q = grind (arith, nat_tests)

pub by_bytes : (bs : List ℕ) → character_of bs ≡ tested bs
by_bytes bs = go (tested bs) refl
  where
    go : (o : Option ℕ) → tested bs ≡ o → character_of bs ≡ o
    go (Some c) q = let w = tested_shape bs c q in form bs w ∙ shape_tested bs w ∙ q
    go None q = no_form bs (λ w. never (value_of bs) (shape_tested bs w ∙ q))

-- a number is made a character where it is one
pub made : (o : Option ℕ) (v : ℕ) → SomeIff o (IsScalar v) v → MatchOption o (OutOfScalarRange v) (λ _. InScalarRange v) → o ≡ cond (is_character v) (Some v) None
unfolding is_character
made None v h k = ⊎_elim (λ l. grind (arith, nat_tests)) (λ l. grind (arith, nat_tests)) k
made (Some x) v h k = ap Some h.1 ∙ ⊎_elim (λ l. grind (arith, nat_tests)) (λ l. grind (arith, nat_tests)) k
