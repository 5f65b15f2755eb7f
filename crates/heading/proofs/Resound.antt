-- The result is again a sound list of events over the same document, and at most one event deeper: a heading's text lies inside the heading.
-- Assumes nothing.
use mathlib.Core.Path.{◌≡◌, refl, sym, ap, ◌∙◌}
use mathlib.Core.Bool.{Bool, true, false}
use mathlib.Core.Logic.{◌⊎◌, inl, inr}
use mathlib.Core.List.{List, [], ◌∷◌, ◌++◌, append_assoc}
use Prim.Native.Nat.{ℕ, zero, suc, ◌+◌, ◌≤◌, ◌<◌}
use native.Mathlib.Omega.{arith}
use lib.ListN.{length, drop, length-drop, take-append-drop}
use Rattle.record.specs.Event.{enter, exit}
use Rattle.record.specs.Stack.{after}
use Rattle.record.specs.Sound.{sound_from, sound}
use Rattle.record.specs.Outcome.{offends, gives}
use Rattle.record.specs.declared.event.Event.{Event}
use Rattle.record.proofs.Bools.{and_left, and_right, and_both}
use Rattle.record.proofs.Depth.{fits_deeper}
use Rattle.record.proofs.Soundness.{stands, sound_rest, sound_enter, sound_exit, after_enter, after_exit}
use Rattle.heading.specs.Headings.{is_of, before_first, inner_of, leaves, shaped, text_round, with_text, resolved_from, earliest, headings}
use Rattle.heading.specs.Text.{Texted, text, closed, empty}
use Rattle.heading.proofs.Leaves.{first_leaf, rest_leaves}
use Rattle.heading.proofs.Passes.{inner_leaves, other_passed, other_resolved, heading_passed, heading_resolved, heading_shaped}
use Rattle.heading.proofs.Judging.{either}
use Rattle.heading.proofs.Offence.{odd, leaves_of}
use Rattle.heading.proofs.Texted.{ended, before_pairs, ending_pairs, behind_pairs}
use Rattle.heading.proofs.TextAsSaid.{texted}

-- of a list of events that is not empty: its first one's kind, and the others
abbrev kind_of : List Event → ℕ
kind_of [] = 0
kind_of (e ∷ es) = e.kind

abbrev tail_of : List Event → List Event
tail_of [] = []
tail_of (e ∷ es) = es

-- the place of the last event, and the names that are open after it
unfoldable pub last_place : ℕ → List Event → ℕ
last_place last [] = last
last_place last (e ∷ es) = last_place e.place es

unfoldable pub open_names : List ℕ → List Event → List ℕ
open_names held [] = held
open_names held (e ∷ es) = open_names (after e e.name held) es

place_append : (xs ys : List Event) (last : ℕ) → last_place last (xs ++ ys) ≡ last_place (last_place last xs) ys
unfolding last_place
place_append [] ys last = refl
place_append (x ∷ xs) ys last = place_append xs ys x.place

place_snoc : (xs : List Event) (b : Event) (last : ℕ) → last_place last (xs ++ (b ∷ [])) ≡ b.place
unfolding last_place
place_snoc xs b last = place_append xs (b ∷ []) last

-- leaf pairs leave open what was open
leaves_open : (es : List Event) (held : List ℕ) → leaves es ≡ true → open_names held es ≡ held
unfolding open_names
leaves_open [] held q = refl
leaves_open (e ∷ []) held q = absurd (odd e q)
leaves_open (e ∷ f ∷ es) held q =
    let l = first_leaf e f es q in
    rw (after_enter e e.name held l.enters, after_exit f f.name (e.name ∷ held) l.exits) (leaves_open es held (rest_leaves e f es q))

-- the front of a sound list, and then what is sound where it ends, one event deeper
sound_front : (xs ys zs : List Event) (deep d last : ℕ) (held : List ℕ) → sound_from deep d last held (xs ++ ys) ≡ true →
    sound_from (deep + 1) d (last_place last xs) (open_names held xs) zs ≡ true → sound_from (deep + 1) d last held (xs ++ zs) ≡ true
unfolding sound_from last_place open_names
sound_front [] ys zs deep d last held s t = t
sound_front (x ∷ xs) ys zs deep d last held s t =
    and_both _ _ (and_left _ _ s)
    (and_both _ _ (fits_deeper deep (deep + 1) x held (omega arith) (and_left _ _ (and_right _ _ s)))
    (sound_front xs ys zs deep d x.place (after x x.name held) (and_right _ _ (and_right _ _ s)) t))

pub sound_behind : (xs ys : List Event) (deep d last : ℕ) (held : List ℕ) → sound_from deep d last held (xs ++ ys) ≡ true →
    sound_from deep d (last_place last xs) (open_names held xs) ys ≡ true
unfolding last_place open_names
sound_behind [] ys deep d last held s = s
sound_behind (x ∷ xs) ys deep d last held s = sound_behind xs ys deep d x.place (after x x.name held) (sound_rest deep d last held x (xs ++ ys) s)

-- places rise
rising : (es : List Event) (e : Event) (rest : List Event) (deep d last : ℕ) (held : List ℕ) → sound_from deep d last held (es ++ (e ∷ rest)) ≡ true → last ≤ e.place
rising [] e rest deep d last held s = (stands deep d last held e rest s).rising
rising (x ∷ es) e rest deep d last held s =
    omega (arith, (stands deep d last held x (es ++ (e ∷ rest)) s).rising, rising es e rest deep d x.place (after x x.name held) (sound_rest deep d last held x (es ++ (e ∷ rest)) s))

-- a text: four events where there were leaf pairs, of which the first is entered at `from` and the last left at `to`
module _ (xs ws us zs rest : List Event) (name from q last to deep d begin : ℕ) (es : List Event) (held : List ℕ) where
  round_sound : ws ≡ enter name from ∷ exit name q ∷ es → ws ≡ us ++ (exit last to ∷ []) → leaves xs ≡ true → leaves ws ≡ true → leaves zs ≡ true →
      sound_from deep d begin held ((xs ++ (ws ++ zs)) ++ rest) ≡ true → (r : List Event) → sound_from (deep + 1) d (last_place begin (xs ++ (ws ++ zs))) held r ≡ true →
      sound_from (deep + 1) d begin held ((xs ++ (text_round from to ++ zs)) ++ r) ≡ true
  round_sound first end lx lw lz s r t =
      let s₁ : sound_from deep d begin held (xs ++ (ws ++ (zs ++ rest))) ≡ true =
      ap (sound_from deep d begin held) (sym (append_assoc xs (ws ++ zs) rest ∙ ap (λ (l : List Event). xs ++ l) (append_assoc ws zs rest))) ∙ s
      in
      let s₂ : sound_from deep d (last_place begin xs) held (ws ++ (zs ++ rest)) ≡ true =
      rw (leaves_open xs held lx) at (sound_behind xs (ws ++ (zs ++ rest)) deep d begin held s₁)
      in
      let s₃ : sound_from deep d (last_place begin xs) held (enter name from ∷ ((exit name q ∷ es) ++ (zs ++ rest))) ≡ true = rw first at s₂ in
      let st = stands deep d (last_place begin xs) held (enter name from) ((exit name q ∷ es) ++ (zs ++ rest)) s₃ in
      let ends : last_place (last_place begin xs) ws ≡ to = ap (last_place (last_place begin xs)) end ∙ place_snoc us (exit last to) (last_place begin xs) in
      let s₄ : sound_from deep d to held (zs ++ rest) ≡ true =
      rw (ends, leaves_open ws held lw) at (sound_behind ws (zs ++ rest) deep d (last_place begin xs) held s₂)
      in
      let s₅ : sound_from deep d (last_place begin xs) held (us ++ (exit last to ∷ (zs ++ rest))) ≡ true =
      rw (append_assoc us (exit last to ∷ []) (zs ++ rest)) at (ap (λ (l : List Event). sound_from deep d (last_place begin xs) held (l ++ (zs ++ rest))) (sym end) ∙ s₂)
      in
      let inside : to ≤ d =
      (stands deep d (last_place (last_place begin xs) us) (open_names held us) (exit last to) (zs ++ rest)
      (sound_behind us (exit last to ∷ (zs ++ rest)) deep d (last_place begin xs) held s₅)).inside
      in
      let after_first = sound_rest deep d (last_place begin xs) held (enter name from) ((exit name q ∷ es) ++ (zs ++ rest)) s₃ in
      let order : from ≤ to = text_rises first end after_first in
      let place : last_place begin (xs ++ (ws ++ zs)) ≡ last_place to zs =
      place_append xs (ws ++ zs) begin ∙ place_append ws zs (last_place begin xs) ∙ ap (λ (m : ℕ). last_place m zs) ends
      in
      let t₁ : sound_from (deep + 1) d to held (zs ++ r) ≡ true = sound_front zs rest r deep d to held s₄ (rw (leaves_open zs held lz, ← place) t) in
      let room : length held < deep = st.room refl in
      let t₂ = sound_exit (deep + 1) d to held (exit 13 to) (zs ++ r) refl (omega arith) inside (omega arith) t₁ in
      let t₃ = sound_exit (deep + 1) d from (13 ∷ held) (exit 0 to) (exit 13 to ∷ (zs ++ r)) refl (omega arith) inside order t₂ in
      let t₄ = sound_enter (deep + 1) d from (13 ∷ held) (enter 0 from) (exit 0 to ∷ exit 13 to ∷ (zs ++ r)) refl (omega arith) st.inside (omega arith) (omega arith) t₃ in
      let t₅ = sound_enter (deep + 1) d (last_place begin xs) held (enter 13 from) (enter 0 from ∷ exit 0 to ∷ exit 13 to ∷ (zs ++ r)) refl (omega arith) st.inside st.rising (omega arith) t₄ in
      rw (append_assoc xs (text_round from to ++ zs) r)
      (sound_front xs (ws ++ (zs ++ rest)) (text_round from to ++ (zs ++ r)) deep d begin held s₁ (rw (leaves_open xs held lx) t₅))
    where
      text_rises : ws ≡ enter name from ∷ exit name q ∷ es → ws ≡ us ++ (exit last to ∷ []) →
          sound_from deep d from (after (enter name from) name held) ((exit name q ∷ es) ++ (zs ++ rest)) ≡ true → from ≤ to
      text_rises f e a = go us (sym f ∙ e)
        where
          go : (vs : List Event) → enter name from ∷ exit name q ∷ es ≡ vs ++ (exit last to ∷ []) → from ≤ to
          go [] k = let z : ◌≡◌ {A = ℕ} 0 1 = ap kind_of k in absurd (omega arith)
          go (v ∷ vs) k =
              let tail : exit name q ∷ es ≡ vs ++ (exit last to ∷ []) = ap tail_of k in
              rising vs (exit last to) (zs ++ rest) deep d from (after (enter name from) name held)
              (ap (sound_from deep d from (after (enter name from) name held)) (sym (ap (λ (l : List Event). l ++ (zs ++ rest)) tail ∙ append_assoc vs (exit last to ∷ []) (zs ++ rest))) ∙ a)

-- a heading's inner events, and what they become
text_sound : (inner result rest : List Event) (deep d last : ℕ) (held : List ℕ) → Texted inner result → leaves inner ≡ true →
    sound_from deep d last held (inner ++ rest) ≡ true → (r : List Event) → sound_from (deep + 1) d (last_place last inner) held r ≡ true →
    sound_from (deep + 1) d last held (result ++ r) ≡ true
text_sound inner result rest deep d last held (text xs es zs name from q end to b w e z) l s r t =
    let ws : List Event = enter name from ∷ exit name q ∷ es in
    let k = ended e in
    round_sound xs ws (k.rest ++ (enter end k.from ∷ [])) zs rest name from q end to deep d last es held refl
    (k.whole ∙ sym (append_assoc k.rest (enter end k.from ∷ []) (exit end to ∷ [])))
    (leaves_of (before_pairs b)) (leaves_of (ending_pairs e)) (leaves_of (behind_pairs z)) s r t
text_sound inner result rest deep d last held (closed xs zs p q b z) l s r t =
    sound_front inner rest r deep d last held s (rw (leaves_open inner held l) t)
text_sound inner result rest deep d last held (empty xs b) l s r t = sound_front inner rest r deep d last held s (rw (leaves_open inner held l) t)

at_end : (deep d last : ℕ) (held : List ℕ) → sound_from deep d last held [] ≡ true → sound_from (deep + 1) d last held [] ≡ true
unfolding sound_from
at_end deep d last held s = s

one_front : (e : Event) (es r : List Event) (deep d last : ℕ) (held : List ℕ) → sound_from deep d last held (e ∷ es) ≡ true →
    sound_from (deep + 1) d e.place (after e e.name held) r ≡ true → sound_from (deep + 1) d last held (e ∷ r) ≡ true
unfolding last_place open_names
one_front e es r deep d last held s t = sound_front (e ∷ []) es r deep d last held s t

inner_drop : (es : List Event) → inner_of es ++ drop (before_first (is_of 1 11) es) es ≡ es
unfolding inner_of
inner_drop es = take-append-drop (before_first (is_of 1 11) es) es

-- the events one by one, a heading's inner events at once; at most m are left
sounding : (m : ℕ) (es : List Event) (i : ℕ) (rs : List Event) (deep d last : ℕ) (held : List ℕ) → length es ≤ m → sound_from deep d last held es ≡ true →
    earliest i es (gives rs) ≡ gives rs → sound_from (deep + 1) d last held (resolved_from 0 es) ≡ true
unfolding resolved_from
sounding zero [] i rs deep d last held l s q = at_end deep d last held s
sounding zero (e ∷ es) i rs deep d last held l s q = absurd (omega arith)
sounding (suc m) [] i rs deep d last held l s q = at_end deep d last held s
sounding (suc m) (e ∷ es) i rs deep d last held l s q =
    go (is_of 0 11 e) refl
    (λ k j p. sounding m (drop k es) j rs deep d p)
  where
    go : (b : Bool) → is_of 0 11 e ≡ b →
        ((k j p : ℕ) (h : List ℕ) → length (drop k es) ≤ m → sound_from deep d p h (drop k es) ≡ true → earliest j (drop k es) (gives rs) ≡ gives rs →
        sound_from (deep + 1) d p h (resolved_from 0 (drop k es)) ≡ true) → sound_from (deep + 1) d last held (resolved_from 0 (e ∷ es)) ≡ true
    go false z more =
        let t = more 0 (i + 1) e.place (after e e.name held) (omega arith) (sound_rest deep d last held e es s) (sym (other_passed e es z i (gives rs)) ∙ q) in
        ap (sound_from (deep + 1) d last held) (other_resolved e es z) ∙ one_front e es (resolved_from 0 es) deep d last held s t
    go true z more =
        let n : ℕ = before_first (is_of 1 11) es in
        let sh : shaped (inner_of es) ≡ true = heading_shaped e es z i rs q in
        let lv : leaves (inner_of es) ≡ true = inner_leaves (inner_of es) sh in
        let held' : List ℕ = after e e.name held in
        let s₁ : sound_from deep d e.place held' (inner_of es ++ drop n es) ≡ true =
        ap (sound_from deep d e.place held') (inner_drop es) ∙ sound_rest deep d last held e es s in
        let s₂ : sound_from deep d (last_place e.place (inner_of es)) held' (drop n es) ≡ true =
        rw (leaves_open (inner_of es) held' lv) at (sound_behind (inner_of es) (drop n es) deep d e.place held' s₁) in
        let t = more n (i + 1 + n) (last_place e.place (inner_of es)) held' (omega (arith, length-drop n es)) s₂ (sym (heading_passed e es z i (gives rs) sh) ∙ q) in
        let t₁ = text_sound (inner_of es) (with_text (inner_of es)) (drop n es) deep d e.place held' (texted (inner_of es) sh) lv s₁ (resolved_from 0 (drop n es)) t in
        ap (sound_from (deep + 1) d last held) (heading_resolved e es z)
        ∙ one_front e es (with_text (inner_of es) ++ resolved_from 0 (drop n es)) deep d last held s t₁

-- the events that the resolver gives are sound over the same document, at most one deeper than the record's
pub resolved_sound : (es rs : List Event) (deep d : ℕ) → sound deep d es ≡ true → headings es ≡ gives rs → sound (deep + 1) d rs ≡ true
unfolding headings
resolved_sound es rs deep d s q = go (either 0 es (gives (resolved_from 0 es)))
  where
    go : (earliest 0 es (gives (resolved_from 0 es)) ≡ gives (resolved_from 0 es))
        ⊎ ((k : ℕ) × (earliest 0 es (gives (resolved_from 0 es)) ≡ offends k) × (0 ≤ k) × (k < 0 + length es)) → sound (deep + 1) d rs ≡ true
    go (inl p) =
        let z : gives (resolved_from 0 es) ≡ gives rs = sym p ∙ q in
        let y : rs ≡ resolved_from 0 es = cc in
        ap (sound_from (deep + 1) d 0 []) y ∙ sounding (length es) es 0 (resolved_from 0 es) deep d 0 [] (omega arith) s p
    go (inr (j, p, l, u)) =
        let z : offends j ≡ gives rs = sym p ∙ q in
        let y : ◌≡◌ {A = ℕ} 0 1 = cc in
        absurd (omega arith)
