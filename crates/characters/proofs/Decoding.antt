-- Decoding is the inverse of encoding: the first three laws of specs/Laws.antt.
-- Assumes nothing.
use Prim.Native.Nat.{ℕ, ◌+◌, ◌-◌, ◌*◌, ◌/◌, ◌%◌, ◌≤◌, ◌<◌}
use mathlib.Core.Path.{◌≡◌, refl, ap, ◌∙◌}
use mathlib.Core.Bool.{Bool, true, false}
use mathlib.Core.List.{List, [], ◌∷◌}
use Rattle.std.specs.Prelude.{Some}
use native.Mathlib.Omega.{arith}
use native.Mathlib.Decide.{dec_lt}
use lib.Dec.{leb}
use borrow.Author.Tests.{leb-true, leb-false, le-leb, lt-ltb, le-ltb}
use Rattle.characters.specs.Utf8.{value_of, character_of, is_character, utf8}
use Rattle.characters.specs.Laws.{Form, DecodedIsForm, FormIsDecoded, OneCharacter}
use Rattle.characters.proofs.Forms.{both, three_bits, four_bits, Shape, form, form_shape, form_value}

-- a character is at most 10FFFF, and what is not below the surrogates is past them
character_bounds : (c : ℕ) → is_character c ≡ true → (55296 ≤ c → 57344 ≤ c) × (c ≤ 1114111)
unfolding is_character
character_bounds c e = go (leb c 55295) refl
  where
    go : (z : Bool) → leb c 55295 ≡ z → (55296 ≤ c → 57344 ≤ c) × (c ≤ 1114111)
    go true p = omega (arith, leb-true c 55295 p)
    go false p =
        let h : (leb 57344 c ≡ true) × (leb c 1114111 ≡ true) = both _ _ (rw p at e) in
        omega (arith, leb-true 57344 c h.0, leb-true c 1114111 h.1)

bounded_character : (c : ℕ) → (55296 ≤ c → 57344 ≤ c) → c ≤ 1114111 → is_character c ≡ true
unfolding is_character
bounded_character c past most = go (leb c 55295) refl
  where
    go : (z : Bool) → leb c 55295 ≡ z → is_character c ≡ true
    go true p = rw p
    go false p = rw (p, le-leb 57344 c (past (leb-false c 55295 p)), le-leb c 1114111 most)

-- the four forms
module _ (c : ℕ) where
  form_one : c < 128 → utf8 c ≡ c ∷ []
  unfolding utf8
  form_one p = rw (lt-ltb c 128 p)

  form_two : 128 ≤ c → c < 2048 → utf8 c ≡ (192 + c / 64) ∷ (128 + c % 64) ∷ []
  unfolding utf8
  form_two p q = rw (le-ltb c 128 p, lt-ltb c 2048 q)

  form_three : 2048 ≤ c → c < 65536 → utf8 c ≡ (224 + c / 4096) ∷ (128 + c / 64 % 64) ∷ (128 + c % 64) ∷ []
  unfolding utf8
  form_three p q = rw (le-ltb c 128 (omega arith), le-ltb c 2048 p, lt-ltb c 65536 q)

  form_four : 65536 ≤ c → utf8 c ≡ (240 + c / 262144) ∷ (128 + c / 4096 % 64) ∷ (128 + c / 64 % 64) ∷ (128 + c % 64) ∷ []
  unfolding utf8
  form_four p = rw (le-ltb c 128 (omega arith), le-ltb c 2048 (omega arith), le-ltb c 65536 p)

-- bytes of the shape are the form of what their bits make
shape_form : (bs : List ℕ) → Shape bs → Form bs (value_of bs)
unfolding value_of
shape_form [] w = absurd w
shape_form (a ∷ []) w = record { character = bounded_character a (omega arith) (omega arith); bytes = form_one a (omega arith) }
shape_form (a ∷ b ∷ []) w =
    let c : ℕ = (a - 192) * 64 + (b - 128) in
    let low : c < 2048 = omega arith in
    let x : 192 + c / 64 ≡ a = omega arith in
    let y : 128 + c % 64 ≡ b = omega arith in
    record { character = bounded_character c (omega arith) (omega arith); bytes = form_two c (omega arith) low ∙ rw (x, y) }
shape_form (a ∷ b ∷ d ∷ []) w =
    let c : ℕ = three_bits a b d in
    let low : c < 65536 = omega arith in
    let x : 224 + c / 4096 ≡ a = omega arith in
    let y : 128 + c / 64 % 64 ≡ b = omega arith in
    let z : 128 + c % 64 ≡ d = omega arith in
    record { character = bounded_character c w.beyond (omega arith); bytes = form_three c w.long low ∙ rw (x, y, z) }
shape_form (a ∷ b ∷ d ∷ e ∷ []) w =
    let c : ℕ = four_bits a b d e in
    let x : 240 + c / 262144 ≡ a = omega arith in
    let y : 128 + c / 4096 % 64 ≡ b = omega arith in
    let z : 128 + c / 64 % 64 ≡ d = omega arith in
    let u : 128 + c % 64 ≡ e = omega arith in
    record { character = bounded_character c (omega arith) w.short; bytes = form_four c w.long ∙ rw (x, y, z, u) }
shape_form (a ∷ b ∷ d ∷ e ∷ f ∷ bs) w = absurd w

pub decoded_is_form : DecodedIsForm
decoded_is_form bs c e = rw (form_value bs c e) at (shape_form bs (form_shape bs c e))

-- the form of a character has the shape, and its bits make it
form_decodes : (c : ℕ) → is_character c ≡ true → Shape (utf8 c) × (value_of (utf8 c) ≡ c)
unfolding value_of
form_decodes c e = go (character_bounds c e) (dec_lt c 128) (dec_lt c 2048) (dec_lt c 65536)
  where
    go : (55296 ≤ c → 57344 ≤ c) × (c ≤ 1114111) → Dec (c < 128) → Dec (c < 2048) → Dec (c < 65536) → Shape (utf8 c) × (value_of (utf8 c) ≡ c)
    go h (yes p) q r = rw (form_one c p) (omega arith)
    go h (no p) (yes q) r = rw (form_two c (omega arith) q) (omega arith)
    go h (no p) (no q) (yes r) =
        let v : three_bits (224 + c / 4096) (128 + c / 64 % 64) (128 + c % 64) ≡ c = omega arith in
        rw (form_three c (omega arith) r)
        (record { lead = omega arith; second = omega arith; third = omega arith; long = omega arith; beyond = rw v h.0 }, v)
    go h (no p) (no q) (no r) =
        let i : c / 64 / 64 ≡ c / 4096 = omega arith in
        let j : c / 4096 / 64 ≡ c / 262144 = omega arith in
        let v : four_bits (240 + c / 262144) (128 + c / 4096 % 64) (128 + c / 64 % 64) (128 + c % 64) ≡ c = omega arith in
        rw (form_four c (omega arith))
        (record { lead = omega arith; second = omega arith; third = omega arith; fourth = omega arith; long = omega arith; short = omega arith }, v)

pub form_is_decoded : FormIsDecoded
form_is_decoded bs c f =
    let h : Shape (utf8 c) × (value_of (utf8 c) ≡ c) = form_decodes c f.character in
    rw f.bytes at (form (utf8 c) h.0 ∙ ap Some h.1)

pub one_character : OneCharacter
one_character bs c d f g =
    let p : character_of bs ≡ Some c = form_is_decoded bs c f in
    let q : character_of bs ≡ Some d = form_is_decoded bs d g in
    cc
