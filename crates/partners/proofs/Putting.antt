-- One event put: side by side, and twelve bytes apart an enter and an exit. Each makes `At` of i the same of i + 1.
-- Assumes nothing.
use mathlib.Core.Path.{◌≡◌, refl, sym, ap, ◌∙◌, subst}
use mathlib.Core.Logic.{◌⊎◌, inl, inr}
use mathlib.Core.List.{List, [], ◌∷◌, ◌++◌, append-nil}
use Prim.Native.Nat.{ℕ, zero, suc, ◌+◌, ◌-◌, ◌*◌, ◌≤◌, ◌<◌}
use native.Mathlib.Numerals.{add-one}
use native.Mathlib.Omega.{arith}
use lib.ListN.{length, get_or, take, drop, length-drop}
use lib.Seq.{take-suc, length-take-le, get_or-drop}
use Rattle.record.specs.Bytes.{u32_at, u32_bytes, Wrote}
use Rattle.record.specs.Event.{event, bytes_of, flat}
use Rattle.record.specs.Stack.{open_at, nth}
use Rattle.record.specs.declared.event.Event.{Event}
use Rattle.record.proofs.Sections.{length_flat, flat_append}
use Rattle.record.proofs.Splice.{wrote_then, wrote_length}
use Rattle.partners.specs.Laws.{partner_of}
use Rattle.partners.specs.Pen.{Holds, Apart, At, Fits, Put}
use Rattle.partners.specs.declared.Pen.{Pen}
use Rattle.partners.proofs.Laws.{enter_partner, partner_twice}
use Rattle.partners.proofs.Walk.{split_lt, same}
use Rattle.partners.proofs.Memory.{kept_byte, holds_here, holds_still, number_held, side}
use Rattle.partners.proofs.Opened.{open_enter, room_for_open, Innermost, innermost_open}

-- the event that comes next
next_inside : (es rest : List Event) (i : ℕ) (e : Event) → drop i es ≡ e ∷ rest → (i < length es) × (nth es i ≡ e)
next_inside es rest i e q =
    let l : length (drop i es) ≡ suc (length rest) = ap length q in
    let z : i + 0 ≡ i = omega arith in (
      omega (arith, l, length-drop i es),
      ap (λ (k : ℕ). nth es k) (sym z) ∙ sym (get_or-drop i es 0 (event 0 0 0)) ∙ ap (λ (l : List Event). nth l 0) q,
    )

-- of two numbers that are not the same one is less
unlike : (k h : ℕ) → (k ≡ h → ⊥) → (k < h) ⊎ (h < k)
unlike zero zero n = absurd (n refl)
unlike zero (suc h) n = inl (omega arith)
unlike (suc k) zero n = inr (omega arith)
unlike (suc k) (suc h) n = go (unlike k h (λ e. n (ap suc e)))
  where
    go : (k < h) ⊎ (h < k) → (suc k < suc h) ⊎ (suc h < suc k)
    go (inl l) = inl (omega arith)
    go (inr l) = inr (omega arith)

flat_one : (e : Event) → flat (e ∷ []) ≡ bytes_of e ++ []
unfolding flat
flat_one e = refl

flat_more : (es : List Event) (i : ℕ) → i < length es → flat (take (i + 1) es) ≡ flat (take i es) ++ bytes_of (nth es i)
flat_more es i h =
    ap (λ (k : ℕ). flat (take k es)) (add-one i)
    ∙ ap flat (take-suc es i (event 0 0 0) h)
    ∙ flat_append (take i es) (nth es i ∷ [])
    ∙ ap (λ (l : List ℕ). flat (take i es) ++ l) (flat_one (nth es i) ∙ append-nil (bytes_of (nth es i)))

module _ {w : ℕ} {b : List ℕ} {es : List Event} {i : ℕ} {d : List ℕ} {p : Pen} (a : At w b es i d p) {e : Event} {rest : List Event}
    (n : drop i es ≡ e ∷ rest) where
  inside : i < length es
  inside = (next_inside es rest i e n).0

  is_next : nth es i ≡ e
  is_next = (next_inside es rest i e n).1

  -- side by side
  module _ (slim : p.width < 12) where
    slim_form : w < 12
    slim_form = omega (arith, a.width)

    pub narrow_room : p.at + 8 ≤ length d
    narrow_room = let s = a.narrow slim_form in omega (arith, s.place, s.room, a.size, inside)

    pub narrow_step : {d₁ : List ℕ} → Wrote d p.at (bytes_of e) d₁ →
        At w b es (i + 1) d₁ (record { at = p.at + 8; width = p.width; number = p.number; held = p.held })
    narrow_step {d₁} v =
        let s = a.narrow slim_form in
        record {
          balance = a.balance;
          few = a.few;
          within = omega (arith, inside);
          width = a.width;
          size = wrote_length v ∙ a.size;
          narrow =
              λ h.
              let l : length (flat (take i es)) ≡ 8 * length (take i es) = length_flat (take i es) in
              let m : length (take i es) ≡ i = length-take-le i es a.within in
              let j : p.at ≡ 4 + length (flat (take i es)) = omega (arith, s.place) in
              let v' : Wrote d p.at (bytes_of (nth es i)) d₁ = rw is_next v in
              record {
                room = s.room;
                place = omega (arith, s.place);
                wrote = rw (flat_more es i inside) (wrote_then s.wrote v' j);
              };
          wide = λ h. absurd (omega (arith, slim_form));
        }

  -- twelve bytes apart
  module _ (broad : 12 ≤ p.width) where
    broad_form : 12 ≤ w
    broad_form = omega (arith, a.width)

    apart : Apart b es i d p
    apart = a.wide broad_form

    -- the fields of the enters that are open are behind the event that is put
    to_come : i + length (open_at es i) ≤ length es
    to_come = room_for_open es a.balance i a.within

    pub wide_room : (p.at + 12 ≤ length d) × ((p.number < 8000) × (p.at < 100000))
    wide_room =
        let s = apart in
        let h = inside in
        let q = a.few in (
          omega (arith, s.place, s.room, a.size),
          (omega (arith, s.count), omega (arith, s.place)),
        )

    -- one event more stands
    stand_more : {d₁ d₂ : List ℕ} → Wrote d p.at (bytes_of e) d₁ → ((k : ℕ) → k < i + 1 → Holds d₁ (4 + 12 * k) (bytes_of (nth es k)) → Holds d₂ (4 + 12 * k) (bytes_of (nth es k))) →
        (k : ℕ) → k < i + 1 → Holds d₂ (4 + 12 * k) (bytes_of (nth es k))
    stand_more {d₁} {d₂} v on k h = on k h (go (split_lt k i h))
      where
        r : p.at + 8 ≤ length d
        r = omega (arith, wide_room.0)

        go : (k < i) ⊎ (k ≡ i) → Holds d₁ (4 + 12 * k) (bytes_of (nth es k))
        go (inl l) = holds_still v (inl (omega (arith, apart.place))) (apart.stand k l)
        go (inr q) =
            let here : Holds d₁ p.at (bytes_of (nth es i)) = rw is_next (holds_here v r) in
            let there : Holds d₁ (4 + 12 * i) (bytes_of (nth es i)) = subst (λ (m : ℕ). Holds d₁ m (bytes_of (nth es i))) apart.place here in
            rw q there

    -- an enter
    module _ (z : e.kind ≡ 0) where
      enters : (nth es i).kind ≡ 0
      enters = ap (λ (x : Event). x.kind) is_next ∙ z

      opened : open_at es (i + 1) ≡ i ∷ open_at es i
      opened = open_enter es i inside enters

      still_to_come : i + length (open_at es i) + 2 ≤ length es
      still_to_come =
          let l : length (open_at es (i + 1)) ≡ suc (length (open_at es i)) = ap length opened in
          omega (arith, room_for_open es a.balance (i + 1) (omega (arith, inside)))

      exit_later : i < partner_of es i
      exit_later = (enter_partner es a.balance i inside enters).order

      pub enter_room : (12 ≤ p.held) × (p.held - 12 + 4 ≤ length d)
      enter_room =
          let s = apart in
          let t = still_to_come in
          (omega (arith, s.top), omega (arith, s.top, s.room, a.size))

      module _ {d₁ d₂ : List ℕ} (v₁ : Wrote d p.at (bytes_of e) d₁) (v₂ : Wrote d₁ (p.held - 12) (u32_bytes p.number) d₂) where
        slot_behind : p.at + 12 ≤ p.held - 12
        slot_behind = omega (arith, apart.top, apart.place, still_to_come)

        slot_inside : p.held - 12 + 4 ≤ 4 + 12 * length es
        slot_inside = omega (arith, apart.top, still_to_come)

        enter_outside : (j : ℕ) → (j < 4) ⊎ (4 + 12 * length es ≤ j) → get_or d₂ j 0 ≡ get_or b j 0
        enter_outside j (inl h) =
            kept_byte v₂ j (inl (omega (arith, slot_behind))) ∙ kept_byte v₁ j (inl (omega (arith, apart.place))) ∙ apart.outside j (inl h)
        enter_outside j (inr h) =
            kept_byte v₂ j (inr (omega (arith, slot_inside)))
            ∙ kept_byte v₁ j (inr (omega (arith, slot_behind, slot_inside)))
            ∙ apart.outside j (inr h)

        enter_linked : (k : ℕ) → k < i + 1 → partner_of es k < i + 1 → Holds d₂ (12 + 12 * k) (u32_bytes (partner_of es k))
        enter_linked k h g = go (split_lt k i h) (split_lt (partner_of es k) i g)
          where
            go : (k < i) ⊎ (k ≡ i) → (partner_of es k < i) ⊎ (partner_of es k ≡ i) → Holds d₂ (12 + 12 * k) (u32_bytes (partner_of es k))
            go (inl l) (inl m) =
                holds_still v₂ (inl (omega (arith, slot_behind, apart.place)))
                (holds_still v₁ (inl (omega (arith, apart.place))) (apart.linked k l m))
            go (inl l) (inr m) =
                let t : partner_of es (partner_of es k) ≡ k = partner_twice es a.balance k (omega (arith, inside)) in
                let q : partner_of es i ≡ k = ap (partner_of es) (sym m) ∙ t in
                absurd (omega (arith, exit_later))
            go (inr q) m =
                let r : partner_of es k ≡ partner_of es i = ap (partner_of es) q in
                absurd (omega (arith, exit_later))

        enter_kept : (held : List ℕ) → held ≡ i ∷ open_at es i → (j : ℕ) → j < length held → Holds d₂ (p.held - 12 + 12 * j) (u32_bytes (get_or held j 0))
        enter_kept held q zero h =
            let l : p.held - 12 + 4 ≤ length d₁ = omega (arith, enter_room.1, wrote_length v₁) in
            let c : u32_bytes p.number ≡ u32_bytes (get_or held 0 0) = ap u32_bytes (apart.count ∙ sym (ap (λ (x : List ℕ). get_or x 0 0) q)) in
            let n : p.held - 12 ≡ p.held - 12 + 12 * 0 = omega arith in
            let s : Holds d₂ (p.held - 12) (u32_bytes (get_or held 0 0)) = subst (λ (x : List ℕ). Holds d₂ (p.held - 12) x) c (holds_here v₂ l) in
            subst (λ (m : ℕ). Holds d₂ m (u32_bytes (get_or held 0 0))) n s
        enter_kept held q (suc j) h =
            let l : length held ≡ suc (length (open_at es i)) = ap length q in
            let f : j < length (open_at es i) = omega arith in
            let g : get_or held (suc j) 0 ≡ get_or (open_at es i) j 0 = ap (λ (x : List ℕ). get_or x (suc j) 0) q in
            let s : Holds d₂ (p.held + 12 * j) (u32_bytes (get_or (open_at es i) j 0)) =
            holds_still v₂ (inr (omega (arith, enter_room.0)))
            (holds_still v₁ (inr (omega (arith, slot_behind))) (apart.kept j f)) in
            let n : p.held + 12 * j ≡ p.held - 12 + 12 * suc j = omega (arith, enter_room.0) in
            subst (λ (m : ℕ). Holds d₂ m (u32_bytes (get_or held (suc j) 0))) n (rw g s)

        pub enter_step : At w b es (i + 1) d₂ (record { at = p.at + 12; width = p.width; number = p.number + 1; held = p.held - 12 })
        enter_step =
            let l : length (open_at es (i + 1)) ≡ suc (length (open_at es i)) = ap length opened in
            record {
              balance = a.balance;
              few = a.few;
              within = omega (arith, inside);
              width = a.width;
              size = wrote_length v₂ ∙ wrote_length v₁ ∙ a.size;
              narrow = λ h. absurd (omega (arith, broad_form));
              wide =
                  λ h.
                  record {
                    room = apart.room;
                    place = omega (arith, apart.place);
                    count = omega (arith, apart.count);
                    top = omega (arith, apart.top, enter_room.0);
                    outside = enter_outside;
                    stand = stand_more v₁ (λ k g s. holds_still v₂ (inl (omega (arith, slot_behind, apart.place))) s);
                    linked = enter_linked;
                    kept = enter_kept (open_at es (i + 1)) opened;
                  };
            }

    -- an exit
    module _ (z : e.kind ≡ 0 → ⊥) where
      exits : (nth es i).kind ≡ 0 → ⊥
      exits q = z (ap (λ (x : Event). x.kind) (sym is_next) ∙ q)

      closed : Innermost es i
      closed = innermost_open es a.balance i inside exits

      open_length : length (open_at es i) ≡ suc (length (open_at es (i + 1)))
      open_length = ap length closed.all

      pub exit_room : (p.held + 4 ≤ length d) × (p.at + 8 ≤ p.held)
      exit_room =
          let s = apart in
          let l = open_length in
          (omega (arith, s.top, s.room, a.size), omega (arith, s.top, s.place, to_come))

      module _ {d₁ : List ℕ} (v₁ : Wrote d p.at (bytes_of e) d₁) {enter : ℕ} (r : enter ≡ u32_at d₁ p.held) where
        its_enter : enter ≡ partner_of es i
        its_enter =
            let n : p.held + 12 * 0 ≡ p.held = omega arith in
            let s : Holds d p.held (u32_bytes (get_or (open_at es i) 0 0)) =
            subst (λ (m : ℕ). Holds d m (u32_bytes (get_or (open_at es i) 0 0))) n (apart.kept 0 (omega (arith, open_length))) in
            let g : get_or (open_at es i) 0 0 ≡ partner_of es i = ap (λ (x : List ℕ). get_or x 0 0) closed.all in
            let t : Holds d p.held (u32_bytes (partner_of es i)) = rw g at s in
            r
            ∙ number_held (partner_of es i) (omega (arith, closed.before, inside, a.few)) (holds_still v₁ (inr exit_room.1) t)

        -- it is among the events that are put
        pub enter_before : (enter < i) × (i < 8000)
        enter_before = (omega (arith, its_enter, closed.before), omega (arith, inside, a.few))

        pub field_room : 12 + 12 * enter + 4 ≤ p.at
        field_room = omega (arith, enter_before.0, apart.place)

        module _ {d₂ d₃ : List ℕ} (v₂ : Wrote d₁ (12 + 12 * enter) (u32_bytes p.number) d₂) (v₃ : Wrote d₂ (p.at + 8) (u32_bytes enter) d₃) where
          -- what stands in none of the three places is as it was
          exit_still : {at : ℕ} {xs : List ℕ} → (at + length xs ≤ p.at) ⊎ (p.at + 12 ≤ at) → (at + length xs ≤ 12 + 12 * enter) ⊎ (12 + 12 * enter + 4 ≤ at) →
              Holds d at xs → Holds d₃ at xs
          exit_still (inl h) g s = holds_still v₃ (inl (omega arith)) (holds_still v₂ g (holds_still v₁ (inl h) s))
          exit_still (inr h) g s = holds_still v₃ (inr (omega arith)) (holds_still v₂ g (holds_still v₁ (inr (omega arith)) s))

          exit_outside : (j : ℕ) → (j < 4) ⊎ (4 + 12 * length es ≤ j) → get_or d₃ j 0 ≡ get_or b j 0
          exit_outside j (inl h) =
              kept_byte v₃ j (inl (omega (arith, apart.place)))
              ∙ kept_byte v₂ j (inl (omega arith))
              ∙ kept_byte v₁ j (inl (omega (arith, apart.place)))
              ∙ apart.outside j (inl h)
          exit_outside j (inr h) =
              kept_byte v₃ j (inr (omega (arith, apart.place, inside)))
              ∙ kept_byte v₂ j (inr (omega (arith, field_room, apart.place, inside)))
              ∙ kept_byte v₁ j (inr (omega (arith, apart.place, inside)))
              ∙ apart.outside j (inr h)

          exit_stand : (k : ℕ) → k < i + 1 → Holds d₁ (4 + 12 * k) (bytes_of (nth es k)) → Holds d₃ (4 + 12 * k) (bytes_of (nth es k))
          exit_stand k h s = holds_still v₃ (inl (omega (arith, apart.place))) (holds_still v₂ (go (side k (enter + 1))) s)
            where
              go : (k < enter + 1) ⊎ (enter + 1 ≤ k) → (4 + 12 * k + 8 ≤ 12 + 12 * enter) ⊎ (12 + 12 * enter + 4 ≤ 4 + 12 * k)
              go (inl l) = inl (omega arith)
              go (inr l) = inr (omega arith)

          exit_linked : (k : ℕ) → k < i + 1 → partner_of es k < i + 1 → Holds d₃ (12 + 12 * k) (u32_bytes (partner_of es k))
          exit_linked k h g = go (split_lt k i h) (split_lt (partner_of es k) i g) (same k enter)
            where
              own : Holds d₃ (12 + 12 * i) (u32_bytes (partner_of es i))
              own =
                  let l : p.at + 8 + 4 ≤ length d₂ = omega (arith, wide_room.0, wrote_length v₁, wrote_length v₂) in
                  let n : p.at + 8 ≡ 12 + 12 * i = omega (arith, apart.place) in
                  let s : Holds d₃ (p.at + 8) (u32_bytes (partner_of es i)) = rw (← its_enter) (holds_here v₃ l) in
                  subst (λ (m : ℕ). Holds d₃ m (u32_bytes (partner_of es i))) n s

              others : Holds d₃ (12 + 12 * enter) (u32_bytes (partner_of es enter))
              others =
                  let l : 12 + 12 * enter + 4 ≤ length d₁ = omega (arith, field_room, wide_room.0, wrote_length v₁) in
                  let n : partner_of es enter ≡ p.number = ap (partner_of es) its_enter ∙ closed.back ∙ sym apart.count in
                  let s : Holds d₃ (12 + 12 * enter) (u32_bytes p.number) = holds_still v₃ (inl (omega (arith, field_room))) (holds_here v₂ l) in
                  rw n s

              apart_from : (k < enter) ⊎ (enter < k) → (12 + 12 * k + 4 ≤ 12 + 12 * enter) ⊎ (12 + 12 * enter + 4 ≤ 12 + 12 * k)
              apart_from (inl l) = inl (omega arith)
              apart_from (inr l) = inr (omega arith)

              go : (k < i) ⊎ (k ≡ i) → (partner_of es k < i) ⊎ (partner_of es k ≡ i) → (k ≡ enter) ⊎ (k ≡ enter → ⊥) → Holds d₃ (12 + 12 * k) (u32_bytes (partner_of es k))
              go (inr q) m o = rw q own
              go (inl l) m (inl q) = rw q others
              go (inl l) (inr m) (inr o) =
                  let t : partner_of es (partner_of es k) ≡ k = partner_twice es a.balance k (omega (arith, inside)) in
                  absurd (o (sym t ∙ ap (partner_of es) m ∙ sym its_enter))
              go (inl l) (inl m) (inr o) = exit_still (inl (omega (arith, apart.place))) (apart_from (unlike k enter o)) (apart.linked k l m)

          exit_kept : (j : ℕ) → j < length (open_at es (i + 1)) → Holds d₃ (p.held + 12 + 12 * j) (u32_bytes (get_or (open_at es (i + 1)) j 0))
          exit_kept j h =
              let g : get_or (open_at es i) (suc j) 0 ≡ get_or (open_at es (i + 1)) j 0 = ap (λ (x : List ℕ). get_or x (suc j) 0) closed.all in
              let s : Holds d (p.held + 12 * suc j) (u32_bytes (get_or (open_at es i) (suc j) 0)) = apart.kept (suc j) (omega (arith, open_length)) in
              let t : Holds d₃ (p.held + 12 * suc j) (u32_bytes (get_or (open_at es (i + 1)) j 0)) =
              exit_still (inr (omega (arith, exit_room.1))) (inr (omega (arith, field_room, exit_room.1))) (rw g at s) in
              let n : p.held + 12 * suc j ≡ p.held + 12 + 12 * j = omega arith in
              subst (λ (m : ℕ). Holds d₃ m (u32_bytes (get_or (open_at es (i + 1)) j 0))) n t

          pub exit_step : At w b es (i + 1) d₃ (record { at = p.at + 12; width = p.width; number = p.number + 1; held = p.held + 12 })
          exit_step =
              record {
                balance = a.balance;
                few = a.few;
                within = omega (arith, inside);
                width = a.width;
                size = wrote_length v₃ ∙ wrote_length v₂ ∙ wrote_length v₁ ∙ a.size;
                narrow = λ h. absurd (omega (arith, broad_form));
                wide =
                    λ h.
                    record {
                      room = apart.room;
                      place = omega (arith, apart.place);
                      count = omega (arith, apart.count);
                      top = omega (arith, apart.top, open_length);
                      outside = exit_outside;
                      stand = stand_more v₁ exit_stand;
                      linked = exit_linked;
                      kept = exit_kept;
                    };
              }

-- what the function promises, in its three ways out

pub put_narrow : {d d₁ : List ℕ} {p : Pen} (e : Event) → p.width < 12 → Wrote d p.at (bytes_of e) d₁ →
    Put d p (e ∷ []) d₁ (record { at = p.at + 8; width = p.width; number = p.number; held = p.held })
put_narrow e slim v = record { goes = λ w b es i rest a n. narrow_step a n slim v; same = wrote_length v }

pub put_enter : {d d₁ d₂ : List ℕ} {p : Pen} (e : Event) → 12 ≤ p.width → e.kind ≡ 0 → Wrote d p.at (bytes_of e) d₁ →
    Wrote d₁ (p.held - 12) (u32_bytes p.number) d₂ →
    Put d p (e ∷ []) d₂ (record { at = p.at + 12; width = p.width; number = p.number + 1; held = p.held - 12 })
put_enter e broad z v₁ v₂ = record { goes = λ w b es i rest a n. enter_step a n broad z v₁ v₂; same = wrote_length v₂ ∙ wrote_length v₁ }

pub put_exit : {d d₁ d₂ d₃ : List ℕ} {p : Pen} {enter : ℕ} (e : Event) → 12 ≤ p.width → (e.kind ≡ 0 → ⊥) → Wrote d p.at (bytes_of e) d₁ →
    enter ≡ u32_at d₁ p.held → Wrote d₁ (12 + 12 * enter) (u32_bytes p.number) d₂ → Wrote d₂ (p.at + 8) (u32_bytes enter) d₃ →
    Put d p (e ∷ []) d₃ (record { at = p.at + 12; width = p.width; number = p.number + 1; held = p.held + 12 })
put_exit e broad z v₁ r v₂ v₃ =
    record {
      goes = λ w b es i rest a n. exit_step a n broad z v₁ r v₂ v₃;
      same = wrote_length v₃ ∙ wrote_length v₂ ∙ wrote_length v₁;
    }

-- and what it needs on the way

pub event_room : {d : List ℕ} {p : Pen} {e : Event} → Fits d p (e ∷ []) → (p.at + 8 ≤ length d) × (p.at < 100000)
event_room {d} {p} {e} f = go (side p.width 12)
  where
    go : (p.width < 12) ⊎ (12 ≤ p.width) → (p.at + 8 ≤ length d) × (p.at < 100000)
    go (inl h) =
        let s = f.at.narrow (slim_form f.at f.next h) in
        (narrow_room f.at f.next h, omega (arith, s.place, f.at.within, f.at.few))
    go (inr h) = let s = wide_room f.at f.next h in (omega (arith, s.0), s.1.1)

module _ {d : List ℕ} {p : Pen} {e : Event} (f : Fits d p (e ∷ [])) (broad : 12 ≤ p.width) where
  pub link_room : (p.at + 12 ≤ length d) × ((p.number < 8000) × (p.at < 100000))
  link_room = wide_room f.at f.next broad

  pub slot_room : e.kind ≡ 0 → (12 ≤ p.held) × (p.held - 12 + 4 ≤ length d)
  slot_room z = enter_room f.at f.next broad z

  module _ (z : e.kind ≡ 0 → ⊥) {d₁ : List ℕ} (v₁ : Wrote d p.at (bytes_of e) d₁) where
    pub held_room : (p.held + 4 ≤ length d₁) × (p.held < 100000)
    held_room =
        let a = apart f.at f.next broad in
        (omega (arith, (exit_room f.at f.next broad z).0, wrote_length v₁), omega (arith, a.top, f.at.few))

    pub enter_low : {enter : ℕ} → enter ≡ u32_at d₁ p.held → (enter < 8000) × (12 + 12 * enter + 4 ≤ length d₁)
    enter_low {enter} r =
        let q = enter_before f.at f.next broad z v₁ r in (
          omega (arith, q.0, q.1),
          omega (arith, field_room f.at f.next broad z v₁ r, link_room.0, wrote_length v₁),
        )
