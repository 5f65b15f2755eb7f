-- The bytes beside a place: which part of them is the one that may be a character.
-- Assumes nothing.
use Prim.Native.Nat.{ℕ, zero, suc, ◌+◌, ◌-◌, ◌≤◌, ◌<◌}
use mathlib.Core.Path.{◌≡◌, refl, ap, ◌∙◌}
use mathlib.Core.List.{List, [], ◌∷◌}
use Rattle.std.specs.Prelude.{None}
use native.Mathlib.Omega.{arith}
use native.Mathlib.Decide.{dec_lt}
use lib.ListN.{length, get_or, take, drop, length-take, length-drop}
use lib.Seq.{drop-cons, get_or-take, get_or-drop, slice-cons, slice_empty, length-slice}
use Rattle.characters.specs.Utf8.{character_of}
use Rattle.characters.specs.Beside.{character_from, character_up_to}
use Rattle.characters.proofs.Forms.{Lead, Follower, Shape}
use Rattle.characters.proofs.Leads.{shape_lead, shape_follower, by_lead, lead_few, lead_high}
use Rattle.characters.proofs.Parts.{settled, unsettled}

-- the first bytes from a place on, and the last ones up to it
abbrev pub first_bytes : List ℕ → ℕ → ℕ → List ℕ
first_bytes doc at m = take m (drop at doc)

abbrev pub last_bytes : List ℕ → ℕ → ℕ → List ℕ
last_bytes doc at m = drop (at - m) (take at doc)

-- the bytes one by one: from at + k on, and up to at - 1
abbrev pub bytes_on : List ℕ → ℕ → ℕ → ℕ → List ℕ
bytes_on doc at k zero = []
bytes_on doc at k (suc n) = get_or doc (at + k) 0 ∷ bytes_on doc at (suc k) n

abbrev pub bytes_back : List ℕ → ℕ → ℕ → List ℕ
bytes_back doc at zero = []
bytes_back doc at (suc n) = get_or doc (at - suc n) 0 ∷ bytes_back doc at n

-- as many bytes from the front as there are in the front
front_again : (m : ℕ) (l : List ℕ) → take m l ≡ take (length (take m l)) l
front_again zero l = refl
front_again (suc m) [] = refl
front_again (suc m) (x ∷ l) = ap (λ (t : List ℕ). x ∷ t) (front_again m l)

-- the first byte of the part is the one at the place
front_first : (m : ℕ) (l : List ℕ) → Shape (take m l) → get_or (take m l) 0 0 ≡ get_or l 0 0
front_first zero l w = absurd w
front_first (suc m) l w = get_or-take (suc m) l 0 0 (omega arith)

module _ (doc : List ℕ) (at : ℕ) where
  first_at : (m : ℕ) → Shape (first_bytes doc at m) → get_or (first_bytes doc at m) 0 0 ≡ get_or doc at 0
  first_at m w =
      let here : at + 0 ≡ at = omega arith in
      front_first m (drop at doc) w ∙ get_or-drop at doc 0 0 ∙ ap (λ (k : ℕ). get_or doc k 0) here

  -- some bytes from a place on that have the shape of a form: the first leads as many
  pub from_lead : (m : ℕ) → Shape (first_bytes doc at m) → Lead (length (first_bytes doc at m)) (get_or doc at 0)
  from_lead m w = rw (first_at m w) at (shape_lead (first_bytes doc at m) w)

  -- so where the byte at a place leads n, the first n bytes from there are the ones to look at
  pub from_place : (n : ℕ) → 1 ≤ n → n ≤ 4 → ((k : ℕ) → Lead k (get_or doc at 0) → k ≡ n) → character_from doc at ≡ character_of (first_bytes doc at n)
  unfolding character_from
  from_place n p q one =
      settled (first_bytes doc at) n p q (λ m w. front_again m (drop at doc) ∙ ap (first_bytes doc at) (one (length (first_bytes doc at m)) (from_lead m w)))

  -- and where it leads more than there are, there is no character
  pub from_cut : ((k : ℕ) → Lead k (get_or doc at 0) → length doc - at < k) → character_from doc at ≡ None
  unfolding character_from
  from_cut more = unsettled (first_bytes doc at) cut
    where
      cut : (m : ℕ) → Shape (first_bytes doc at m) → ⊥
      cut m w = omega (arith, more (length (first_bytes doc at m)) (from_lead m w), length-take m (drop at doc), length-drop at doc)

  bytes_on_lem : (k n : ℕ) → at + k + n ≤ length doc → first_bytes doc (at + k) n ≡ bytes_on doc at k n
  bytes_on_lem k zero p = refl
  bytes_on_lem k (suc n) p =
      let next : suc (at + k) ≡ at + suc k = omega arith in
      ap (take (suc n)) (drop-cons doc (at + k) 0 (omega arith))
      ∙ ap (λ (t : List ℕ). get_or doc (at + k) 0 ∷ t) (ap (λ (j : ℕ). first_bytes doc j n) next ∙ bytes_on_lem (suc k) n (omega arith))

  pub first_bytes_lem : (n : ℕ) → at + suc n ≤ length doc → first_bytes doc at (suc n) ≡ get_or doc at 0 ∷ bytes_on doc at 1 n
  first_bytes_lem n p =
      let here : at + 0 ≡ at = omega arith in
      rw here at (bytes_on_lem 0 (suc n) (omega arith))

-- some bytes up to a place that have the shape of a form, by how many there are
pub record Trailing (doc : List ℕ) (at n : ℕ) : Type 0 where
  pub few : n ≤ at
  pub lead : Lead n (get_or doc (at - n) 0)
  pub follower : (j : ℕ) → 0 < j → j < n → Follower (get_or doc (at - j) 0)

module _ (doc : List ℕ) (at : ℕ) (h : at ≤ length doc) where
  -- how many there are, and where they stand
  last_length : (m : ℕ) → length (last_bytes doc at m) ≡ at - (at - m)
  last_length m = length-slice (at - m) at doc h

  last_at : (m i : ℕ) → i < length (last_bytes doc at m) → get_or (last_bytes doc at m) i 0 ≡ get_or doc (at - m + i) 0
  last_at m i p = get_or-drop (at - m) (take at doc) i 0 ∙ get_or-take at doc (at - m + i) 0 (omega (arith, last_length m))

  last_again : (m : ℕ) → last_bytes doc at m ≡ last_bytes doc at (length (last_bytes doc at m))
  last_again m =
      let e : at - m ≡ at - length (last_bytes doc at m) = omega (arith, last_length m) in
      ap (λ (k : ℕ). drop k (take at doc)) e

  pub up_to_trailing : (m : ℕ) → Shape (last_bytes doc at m) → Trailing doc at (length (last_bytes doc at m))
  up_to_trailing m w =
      let bs : List ℕ = last_bytes doc at m in
      let some_there : (1 ≤ length bs) × (length bs ≤ 4) = lead_few (length bs) (get_or bs 0 0) (shape_lead bs w) in
      let first_is : at - m + 0 ≡ at - length bs = omega (arith, last_length m) in
      record {
        few = omega (arith, last_length m);
        lead = rw (last_at m 0 some_there.0 ∙ ap (λ (k : ℕ). get_or doc k 0) first_is) at (shape_lead bs w);
        follower =
            λ j p q.
            let it_is : at - m + (length bs - j) ≡ at - j = omega (arith, last_length m) in
            rw (last_at m (length bs - j) (omega arith) ∙ ap (λ (k : ℕ). get_or doc k 0) it_is) at
            (shape_follower bs w (length bs - j) (omega arith) (omega arith));
      }

  -- where no other number of bytes has the shape of a form, these are the ones to look at
  pub up_to_place : (n : ℕ) → 1 ≤ n → n ≤ 4 → ((k : ℕ) → Trailing doc at k → k ≡ n) → character_up_to doc at ≡ character_of (last_bytes doc at n)
  unfolding character_up_to
  up_to_place n p q one = settled (last_bytes doc at) n p q (λ m w. last_again m ∙ ap (last_bytes doc at) (one _ (up_to_trailing m w)))

  pub up_to_cut : ((k : ℕ) → Trailing doc at k → ⊥) → character_up_to doc at ≡ None
  unfolding character_up_to
  up_to_cut none_has = unsettled (last_bytes doc at) (λ m w. none_has _ (up_to_trailing m w))

  pub last_bytes_lem : (n : ℕ) → n ≤ at → last_bytes doc at n ≡ bytes_back doc at n
  last_bytes_lem zero p =
      let here : at - 0 ≡ at = omega arith in
      ap (λ (j : ℕ). drop j (take at doc)) here ∙ slice_empty at doc
  last_bytes_lem (suc n) p =
      let next : suc (at - suc n) ≡ at - n = omega arith in
      slice-cons (at - suc n) at doc 0 (omega arith) h
      ∙ ap (λ (t : List ℕ). get_or doc (at - suc n) 0 ∷ t) (ap (λ (j : ℕ). drop j (take at doc)) next ∙ last_bytes_lem n (omega arith))

-- no byte nearer than n leads as many as stand from it on
pub record Bare (doc : List ℕ) (at n : ℕ) : Type 0 where
  pub leads_not : (k : ℕ) → k < n → Lead k (get_or doc (at - k) 0) → ⊥

module _ (doc : List ℕ) (at : ℕ) where
  -- the last byte is past ASCII
  pub bare_two : 128 ≤ get_or doc (at - 1) 0 → Bare doc at 2
  bare_two past = record { leads_not = go }
    where
      go : (k : ℕ) → k < 2 → Lead k (get_or doc (at - k) 0) → ⊥
      go zero p w = w
      go (suc zero) p w = omega arith
      go (suc (suc k)) p w = omega arith

  -- and one more byte is below those that lead two and more
  bare_more : (n : ℕ) → 2 ≤ n → Bare doc at n → get_or doc (at - n) 0 ≤ 191 → Bare doc at (suc n)
  bare_more n two bare low = record { leads_not = λ k p w. go k p w (dec_lt k n) }
    where
      go : (k : ℕ) → k < suc n → Lead k (get_or doc (at - k) 0) → Dec (k < n) → ⊥
      go k p w (yes q) = bare.leads_not k q w
      go k p w (no q) =
          let same : k ≡ n = omega arith in
          let v : Lead n (get_or doc (at - n) 0) = rw same at w in
          by_lead (λ (m : ℕ). 2 ≤ m → ⊥) n (get_or doc (at - n) 0) v (omega arith) two

  pub bare_three : 128 ≤ get_or doc (at - 1) 0 → get_or doc (at - 2) 0 ≤ 191 → Bare doc at 3
  bare_three past low = bare_more 2 (omega arith) (bare_two past) low

  pub bare_four : 128 ≤ get_or doc (at - 1) 0 → get_or doc (at - 2) 0 ≤ 191 → get_or doc (at - 3) 0 ≤ 191 → Bare doc at 4
  bare_four past low next = bare_more 3 (omega arith) (bare_three past low) next

  pub bare_least : (n k : ℕ) → Bare doc at n → Trailing doc at k → n ≤ k
  bare_least n k bare t = go (dec_lt k n)
    where
      go : Dec (k < n) → n ≤ k
      go (yes q) = absurd (bare.leads_not k q t.lead)
      go (no q) = omega arith

  -- the nearest byte that is no follower leads
  pub nearest : (n k : ℕ) → 1 ≤ n → Bare doc at n → 191 < get_or doc (at - n) 0 → Trailing doc at k → k ≡ n
  nearest n k one bare high t = go (dec_lt n k)
    where
      go : Dec (n < k) → k ≡ n
      go (yes q) = absurd (omega (arith, t.follower n one q))
      go (no q) = omega (arith, bare_least n k bare t)

  -- what leads the fewer of two would be a follower among the more
  no_fewer : (j k : ℕ) → Trailing doc at j → Trailing doc at k → j < k → ⊥
  no_fewer j k s t p =
      let some_there : (1 ≤ j) × (j ≤ 4) = lead_few j (get_or doc (at - j) 0) s.lead in
      let low : Follower (get_or doc (at - j) 0) = t.follower j some_there.0 p in
      omega (arith, lead_high j (get_or doc (at - j) 0) s.lead low.0)

  pub same_trailing : (j k : ℕ) → Trailing doc at j → Trailing doc at k → j ≡ k
  same_trailing j k s t = go (dec_lt j k) (dec_lt k j)
    where
      go : Dec (j < k) → Dec (k < j) → j ≡ k
      go (yes p) q = absurd (no_fewer j k s t p)
      go (no p) (yes q) = absurd (no_fewer k j t s q)
      go (no p) (no q) = omega arith
