-- What stands beside a place, as the code finds it and as its callers ask.
-- Assumes nothing.
use Prim.Native.Nat.{ℕ, zero, suc, ◌+◌, ◌-◌, ◌≤◌, ◌<◌}
use mathlib.Core.Path.{◌≡◌, refl, ap, ◌∙◌}
use mathlib.Core.List.{List, [], ◌∷◌}
use Rattle.std.specs.Prelude.{Option, None, Some, unwrap_or}
use native.Mathlib.Omega.{arith}
use lib.ListN.{length, get_or, take, drop, length-take, length-drop}
use lib.Seq.{take_all}
use borrow.Author.Tests.{lt-ltb, le-ltb}
use Rattle.characters.specs.Utf8.{character_of, value_of}
use Rattle.characters.specs.Beside.{character_from, character_up_to, found, neighbour_before, neighbour_after}
use Rattle.characters.specs.Laws.{EdgeFirst, EdgeAfter, EdgeBefore, AsciiAfter, AsciiBefore, Past, malformed, character, PastAfter, PastBefore}
use Rattle.characters.specs.Beside.{Edge, Character}
use Rattle.characters.specs.StandIn.{stand_in}
use Rattle.characters.proofs.Forms.{Lead, Shape, form, form_shape, form_value}
use Rattle.characters.proofs.Leads.{by_lead, lead_few, shape_past}
use Rattle.characters.proofs.Parts.{first_found, found_part}
use Rattle.characters.proofs.Sides.{first_bytes, bytes_on, first_bytes_lem, from_lead, from_place, from_cut}
use Rattle.characters.proofs.Sides.{Trailing, last_bytes, bytes_back, last_bytes_lem, up_to_trailing, up_to_place, up_to_cut, Bare, bare_two, bare_three, bare_four, bare_least, nearest}

pub edge_after : EdgeAfter
unfolding neighbour_after
edge_after doc at h = rw (le-ltb at (length doc) h)

pub edge_before : EdgeBefore
unfolding neighbour_before
edge_before doc at h = rw (le-ltb at (length doc) h)

pub edge_first : EdgeFirst
unfolding neighbour_before
edge_first doc = refl

-- the same of a place that is 0
pub edge_at : (doc : List ℕ) (at : ℕ) → at ≡ 0 → neighbour_before doc at ≡ Edge
edge_at doc at e = rw e (edge_first doc)

module _ (doc : List ℕ) (at : ℕ) where
  pub after_found : at < length doc → neighbour_after doc at ≡ found (character_from doc at)
  unfolding neighbour_after
  after_found h = rw (lt-ltb at (length doc) h)

  -- as many bytes as the one at the place leads
  from_bytes : (n : ℕ) → n ≤ 3 → at + suc n ≤ length doc → ((k : ℕ) → Lead k (get_or doc at 0) → k ≡ suc n) →
      character_from doc at ≡ character_of (get_or doc at 0 ∷ bytes_on doc at 1 n)
  from_bytes n few there one =
      from_place doc at (suc n) (omega arith) (omega arith) one ∙ ap character_of (first_bytes_lem doc at n there)

  from_ascii : at < length doc → get_or doc at 0 ≤ 127 → character_from doc at ≡ Some (get_or doc at 0)
  unfolding value_of
  from_ascii h low =
      from_bytes 0 (omega arith) (omega arith) (λ k w. by_lead (λ (m : ℕ). m ≡ 1) k (get_or doc at 0) w (omega arith)) ∙ form (get_or doc at 0 ∷ []) low

pub ascii_after : AsciiAfter
ascii_after doc at h low = after_found doc at h ∙ ap found (from_ascii doc at h (omega arith))

-- what some bytes begin with, by the first of them and by how many there are
module _ (s : List ℕ) where
  pub first_one : 1 ≤ length s → get_or s 0 0 ≤ 127 → character_from s 0 ≡ Some (get_or s 0 0)
  first_one n low = from_ascii s 0 n low

  pub first_two : 2 ≤ length s → 128 ≤ get_or s 0 0 → get_or s 0 0 ≤ 223 → character_from s 0 ≡ character_of (get_or s 0 0 ∷ get_or s 1 0 ∷ [])
  first_two n h l = from_bytes s 0 1 (omega arith) (omega arith) (λ k w. by_lead (λ (m : ℕ). m ≡ 2) k (get_or s 0 0) w (omega arith))

  pub first_three : 3 ≤ length s → 224 ≤ get_or s 0 0 → get_or s 0 0 ≤ 239 →
      character_from s 0 ≡ character_of (get_or s 0 0 ∷ get_or s 1 0 ∷ get_or s 2 0 ∷ [])
  first_three n h l = from_bytes s 0 2 (omega arith) (omega arith) (λ k w. by_lead (λ (m : ℕ). m ≡ 3) k (get_or s 0 0) w (omega arith))

  pub first_four : 4 ≤ length s → 240 ≤ get_or s 0 0 →
      character_from s 0 ≡ character_of (get_or s 0 0 ∷ get_or s 1 0 ∷ get_or s 2 0 ∷ get_or s 3 0 ∷ [])
  first_four n h = from_bytes s 0 3 (omega arith) (omega arith) (λ k w. by_lead (λ (m : ℕ). m ≡ 4) k (get_or s 0 0) w (omega arith))

  -- fewer than it leads
  pub first_none : length s < 1 → character_from s 0 ≡ None
  first_none n = from_cut s 0 (λ k w. omega (arith, lead_few k (get_or s 0 0) w))

  pub first_cut_two : length s < 2 → 128 ≤ get_or s 0 0 → character_from s 0 ≡ None
  first_cut_two n h = from_cut s 0 (λ k w. by_lead (λ (m : ℕ). length s - 0 < m) k (get_or s 0 0) w (omega arith))

  pub first_cut_three : length s < 3 → 224 ≤ get_or s 0 0 → character_from s 0 ≡ None
  first_cut_three n h = from_cut s 0 (λ k w. by_lead (λ (m : ℕ). length s - 0 < m) k (get_or s 0 0) w (omega arith))

  pub first_cut_four : length s < 4 → 240 ≤ get_or s 0 0 → character_from s 0 ≡ None
  first_cut_four n h = from_cut s 0 (λ k w. by_lead (λ (m : ℕ). length s - 0 < m) k (get_or s 0 0) w (omega arith))

pub ruleset firsts = (first_one, first_two, first_three, first_four, first_none, first_cut_two, first_cut_three, first_cut_four)

pub before_found : (doc : List ℕ) (at : ℕ) → 0 < at → at ≤ length doc → neighbour_before doc at ≡ found (character_up_to doc at)
unfolding neighbour_before
before_found doc zero p h = absurd (omega arith)
before_found doc (suc at) p h = rw (lt-ltb at (length doc) h)

up_to_bytes : (doc : List ℕ) (at n : ℕ) → at ≤ length doc → 1 ≤ n → n ≤ 4 → n ≤ at → ((k : ℕ) → Trailing doc at k → k ≡ n) →
    character_up_to doc at ≡ character_of (bytes_back doc at n)
up_to_bytes doc at n h p q there one = up_to_place doc at h n p q one ∙ ap character_of (last_bytes_lem doc at h n there)

-- the last bytes, of which none nearer than the first leads
module _ (doc : List ℕ) (at n : ℕ) (bare : Bare doc at n) where
  -- it is no follower, so it leads
  up_to_led : (1 ≤ n) × (n ≤ 4) × (n ≤ at) × (at ≤ length doc) × (191 < get_or doc (at - n) 0) → character_up_to doc at ≡ character_of (bytes_back doc at n)
  up_to_led h = up_to_bytes doc at n h.3 h.0 h.1 h.2 (λ k t. nearest doc at n k h.0 bare h.4 t)

  -- it is the fourth, and no more than four make a character
  up_to_fourth : (n ≡ 4) × (n ≤ at) × (at ≤ length doc) → character_up_to doc at ≡ character_of (bytes_back doc at n)
  up_to_fourth h =
      up_to_bytes doc at n h.2 (omega arith) (omega arith) h.1
      (λ k t. omega (arith, bare_least doc at n k bare t, lead_few k (get_or doc (at - k) 0) t.lead))

  -- it is before the document's beginning
  up_to_none : (at < n) × (at ≤ length doc) → character_up_to doc at ≡ None
  up_to_none h = up_to_cut doc at h.1 (λ k t. omega (arith, bare_least doc at n k bare t, t.few))

-- a byte below 128 is no follower, so no more than it stands there
up_to_ascii : (doc : List ℕ) (at : ℕ) → 0 < at → at ≤ length doc → get_or doc (at - 1) 0 ≤ 127 → character_up_to doc at ≡ Some (get_or doc (at - 1) 0)
unfolding value_of
up_to_ascii doc at p h low = up_to_bytes doc at 1 h (omega arith) (omega arith) (omega arith) one ∙ form (get_or doc (at - 1) 0 ∷ []) low
  where
    one : (k : ℕ) → Trailing doc at k → k ≡ 1
    one zero t = absurd t.lead
    one (suc zero) t = omega arith
    one (suc (suc k)) t = absurd (omega (arith, t.follower 1 (omega arith) (omega arith)))

before_ascii : (doc : List ℕ) (at : ℕ) → 0 < at → at ≤ length doc → get_or doc (at - 1) 0 < 128 → neighbour_before doc at ≡ Character (get_or doc (at - 1) 0)
before_ascii doc at p h low = before_found doc at p h ∙ ap found (up_to_ascii doc at p h (omega arith))

-- what some bytes end with, by the last of them and by how many there are
module _ (s : List ℕ) where
  pub last_one : 1 ≤ length s → get_or s (length s - 1) 0 ≤ 127 → character_up_to s (length s) ≡ Some (get_or s (length s - 1) 0)
  last_one n low = up_to_ascii s (length s) n (omega arith) low

  pub last_two : 2 ≤ length s → 128 ≤ get_or s (length s - 1) 0 → 192 ≤ get_or s (length s - 2) 0 →
      character_up_to s (length s) ≡ character_of (get_or s (length s - 2) 0 ∷ get_or s (length s - 1) 0 ∷ [])
  last_two n z y = up_to_led s (length s) 2 (bare_two s (length s) z) (omega arith)

  pub last_three : 3 ≤ length s → 128 ≤ get_or s (length s - 1) 0 → get_or s (length s - 2) 0 ≤ 191 → 192 ≤ get_or s (length s - 3) 0 →
      character_up_to s (length s) ≡ character_of (get_or s (length s - 3) 0 ∷ get_or s (length s - 2) 0 ∷ get_or s (length s - 1) 0 ∷ [])
  last_three n z y x = up_to_led s (length s) 3 (bare_three s (length s) z y) (omega arith)

  pub last_four : 4 ≤ length s → 128 ≤ get_or s (length s - 1) 0 → get_or s (length s - 2) 0 ≤ 191 → get_or s (length s - 3) 0 ≤ 191 →
      character_up_to s (length s)
      ≡ character_of (get_or s (length s - 4) 0 ∷ get_or s (length s - 3) 0 ∷ get_or s (length s - 2) 0 ∷ get_or s (length s - 1) 0 ∷ [])
  last_four n z y x = up_to_fourth s (length s) 4 (bare_four s (length s) z y x) (omega arith)

  -- none of them leads
  pub last_none : length s < 1 → character_up_to s (length s) ≡ None
  last_none n = up_to_none s (length s) 1 (record { leads_not = λ k p w. let few = lead_few k (get_or s (length s - k) 0) w in absurd (omega arith) }) (omega arith)

  pub last_cut_two : length s < 2 → 128 ≤ get_or s (length s - 1) 0 → character_up_to s (length s) ≡ None
  last_cut_two n z = up_to_none s (length s) 2 (bare_two s (length s) z) (omega arith)

  pub last_cut_three : length s < 3 → 128 ≤ get_or s (length s - 1) 0 → get_or s (length s - 2) 0 ≤ 191 → character_up_to s (length s) ≡ None
  last_cut_three n z y = up_to_none s (length s) 3 (bare_three s (length s) z y) (omega arith)

  pub last_cut_four : length s < 4 → 128 ≤ get_or s (length s - 1) 0 → get_or s (length s - 2) 0 ≤ 191 → get_or s (length s - 3) 0 ≤ 191 →
      character_up_to s (length s) ≡ None
  last_cut_four n z y x = up_to_none s (length s) 4 (bare_four s (length s) z y x) (omega arith)

pub ruleset lasts = (last_one, last_two, last_three, last_four, last_none, last_cut_two, last_cut_three, last_cut_four)

-- what stands for a neighbour
stand_found : (o : Option ℕ) → stand_in (found o) ≡ unwrap_or o 0
stand_found None = refl
stand_found (Some c) = refl

module _ (doc : List ℕ) (at : ℕ) where
  pub edge_stands_before : at ≡ 0 → stand_in (neighbour_before doc at) ≡ 10
  edge_stands_before e = ap stand_in (edge_at doc at e)

  pub edge_stands_after : length doc ≤ at → stand_in (neighbour_after doc at) ≡ 10
  edge_stands_after h = ap stand_in (edge_after doc at h)

  pub stands_before : 0 < at → at ≤ length doc → stand_in (neighbour_before doc at) ≡ unwrap_or (character_up_to (take at doc) (length (take at doc))) 0
  unfolding character_up_to
  stands_before p h =
      let n : length (take at doc) ≡ at = omega (arith, length-take at doc) in
      let front : take (length (take at doc)) (take at doc) ≡ take at doc = take_all (length (take at doc)) (take at doc) (omega arith) in
      ap stand_in (before_found doc at p h) ∙ stand_found (character_up_to doc at) ∙ rw (front, n)

  pub stands_after : at < length doc → stand_in (neighbour_after doc at) ≡ unwrap_or (character_from (take (length doc - at) (drop at doc)) 0) 0
  unfolding character_from
  stands_after h =
      let rest : take (length doc - at) (drop at doc) ≡ drop at doc = take_all (length doc - at) (drop at doc) (omega (arith, length-drop at doc)) in
      ap stand_in (after_found doc at h) ∙ stand_found (character_from doc at) ∙ rw rest

pub ascii_before : AsciiBefore
ascii_before doc at h low =
    let here : suc at - 1 ≡ at = omega arith in
    rw here at (before_ascii doc (suc at) (omega arith) h (rw here low))

-- a character that is found in two bytes or more is past ASCII
past_part : (part : ℕ → List ℕ) (c : ℕ) → first_found part ≡ Some c → ((m : ℕ) → Shape (part m) → 2 ≤ length (part m)) → 128 ≤ c
past_part part c e long =
    let m : (k : ℕ) × (character_of (part k) ≡ Some c) = found_part part c e in
    let w : Shape (part m.0) = form_shape (part m.0) c m.1 in
    omega (arith, shape_past (part m.0) w (long m.0 w), form_value (part m.0) c m.1)

past_found : (o : Option ℕ) → ((c : ℕ) → o ≡ Some c → 128 ≤ c) → Past (found o)
past_found None past = malformed
past_found (Some c) past = character c (past c refl)

pub past_after : PastAfter
unfolding character_from
past_after doc at h high = rw (after_found doc at h) (past_found (character_from doc at) (λ c e. past_part (first_bytes doc at) c e two))
  where
    two : (m : ℕ) → Shape (first_bytes doc at m) → 2 ≤ length (first_bytes doc at m)
    two m w = by_lead (λ (k : ℕ). 2 ≤ k) (length (first_bytes doc at m)) (get_or doc at 0) (from_lead doc at m w) (omega arith)

pub past_before : PastBefore
unfolding character_up_to
past_before doc at h high =
    rw (before_found doc (suc at) (omega arith) h) (past_found (character_up_to doc (suc at)) (λ c e. past_part (last_bytes doc (suc at)) c e two))
  where
    two : (m : ℕ) → Shape (last_bytes doc (suc at) m) → 2 ≤ length (last_bytes doc (suc at) m)
    two m w =
        let here : suc at - 1 ≡ at = omega arith in
        bare_least doc (suc at) 2 (length (last_bytes doc (suc at) m)) (bare_two doc (suc at) (rw here high)) (up_to_trailing doc (suc at) h m w)
