-- What an answer that accepts tells of a record: for the crates above, which never see a body.
-- Assumes nothing.
use Rattle.std.specs.Prelude.{Some, None, Option}
use mathlib.Core.Path.{◌≡◌, refl, sym, ap, ◌∙◌}
use mathlib.Core.Bool.{Bool, true, false}
use mathlib.Core.List.{List, [], ◌∷◌}
use Prim.Native.Nat.{ℕ, zero, suc, ◌+◌, ◌*◌, ◌≤◌, ◌<◌}
use native.Mathlib.Omega.{arith}
use lib.ListN.{length, get_or, take}
use lib.Dec.{eqb}
use borrow.Author.Tests.{ne_eqb, le-ltb, eqb-true, eqb-false, ltb-false}
use Rattle.record.specs.Choice.{choose, and}
use Rattle.record.specs.Bytes.{u32_at}
use Rattle.record.specs.Form.{old, second, place_in, mate_in, Known}
use Rattle.record.specs.Handed.{form_of, options_of}
use Rattle.record.specs.Event.{Stored, stored_at, all_stored_at, event_at, events_by, events_in}
use Rattle.record.specs.Stack.{innermost_of, after, open_after, open_at}
use Rattle.record.specs.Sound.{sound_from}
use Rattle.record.specs.Good.{GoodIn}
use Rattle.record.specs.Check.{refuse, count_at, fitting, first_return, formed, paired, truly, judge, inside_of, end_of, event_count_of, checked_in, fronted, admitted, Reading, accept}
use Rattle.record.specs.declared.check.Counts.{Counts}
use Rattle.record.specs.declared.event.Event.{Event}
use Rattle.record.specs.declared.form.Form.{Form}
use Rattle.record.specs.declared.form.Handed.{Handed}
use Rattle.record.specs.declared.form.Handed.TheVariants.{Old, Second}
use Rattle.record.proofs.Bools.{and_left, and_right, and_both}
use Rattle.record.proofs.Counts.{Fitted, fitted}

-- two answers that accept are of the same counts
pub same_counts : (d e m n : ℕ) → accept d e ≡ accept m n → (d ≡ m) × (e ≡ n)
same_counts d e m n q =
    let c : ◌≡◌ {A = Counts} (record { document = d; events = e }) (record { document = m; events = n }) = cc in
    (ap (λ (x : Counts). x.document) c, ap (λ (x : Counts). x.events) c)

never : (n p d e : ℕ) → refuse n p ≡ accept d e → ⊥
never n p d e q = let z : ◌≡◌ {A = ℕ} 0 1 = cc in omega arith

-- a choice that is `accept`, with a refusal as its other side, is its first side, and its test held
pub held_test : (b : Bool) (x : Reading) (n p d e : ℕ) → choose b x (refuse n p) ≡ accept d e → b ≡ true
unfolding choose
held_test true x n p d e q = refl
held_test false x n p d e q = absurd (never n p d e q)

pub held_side : (b : Bool) (x : Reading) (n p d e : ℕ) → choose b x (refuse n p) ≡ accept d e → x ≡ accept d e
unfolding choose
held_side true x n p d e q = q
held_side false x n p d e q = absurd (never n p d e q)

-- the other way round: the refusal is the first side
other_test : (b : Bool) (x : Reading) (n p d e : ℕ) → choose b (refuse n p) x ≡ accept d e → b ≡ false
unfolding choose
other_test true x n p d e q = absurd (never n p d e q)
other_test false x n p d e q = refl

other_side : (b : Bool) (x : Reading) (n p d e : ℕ) → choose b (refuse n p) x ≡ accept d e → x ≡ accept d e
unfolding choose
other_side true x n p d e q = absurd (never n p d e q)
other_side false x n p d e q = q

-- the judgement, where it is good, gives the answer that it was handed
same_good : (w : ℕ) (mates : ℕ → ℕ) (vs : List Stored) (d k at last : ℕ) (held opens : List ℕ) (good : Reading) (a b : ℕ) → judge w mates vs d k at last held opens good ≡ accept a b → good ≡ accept a b
unfolding judge
same_good w mates [] d k at last held opens good a b q = held_side _ _ _ _ _ _ q
same_good w mates (v ∷ vs) d k at last held opens good a b q =
    same_good w mates vs d (k + 1) (at + w) v.what.place (after v.what v.what.name held) (after v.what k opens) good a b (held_side _ _ _ _ _ _ q)

-- and then the events are sound
judged_sound : (w : ℕ) (mates : ℕ → ℕ) (n : ℕ) (s : List ℕ) (d k at last : ℕ) (held opens : List ℕ) (good : Reading) (a b : ℕ) →
    judge w mates (all_stored_at w n s at) d k at last held opens good ≡ accept a b → sound_from 64 d last held (events_by w n s at) ≡ true
unfolding judge all_stored_at events_by sound_from formed
judged_sound w mates zero s d k at last held opens good a b q = held_test _ _ _ _ _ _ q
judged_sound w mates (suc n) s d k at last held opens good a b q =
    let t = held_test _ _ _ _ _ _ q in
    and_both _ _ (and_right _ _ (and_left _ _ t))
    (and_both _ _ (and_left _ _ (and_right _ _ t))
    (judged_sound w mates n s d (k + 1) (at + w) (u32_at s (at + 4)) (after (stored_at s at).what (get_or s (at + 1) 0) held) (after (stored_at s at).what k opens) good a b (held_side _ _ _ _ _ _ q)))

-- and each event's two bytes are zero
judged_zeros : (w : ℕ) (mates : ℕ → ℕ) (n : ℕ) (s : List ℕ) (d i at last : ℕ) (held opens : List ℕ) (good : Reading) (a b : ℕ) →
    judge w mates (all_stored_at w n s at) d i at last held opens good ≡ accept a b → (k : ℕ) → k < n → (stored_at s (at + w * k)).zeros ≡ 0
unfolding judge all_stored_at formed
judged_zeros w mates zero s d i at last held opens good a b q k h = absurd (omega arith)
judged_zeros w mates (suc n) s d i at last held opens good a b q zero h =
    let z : at + w * 0 ≡ at = omega arith in
    rw z (eqb-true _ _ (and_left _ _ (and_left _ _ (held_test _ _ _ _ _ _ q))))
judged_zeros w mates (suc n) s d i at last held opens good a b q (suc k) h =
    let z : at + w * suc k ≡ at + w + w * k = omega arith in
    rw z
    (judged_zeros w mates n s d (i + 1) (at + w) (u32_at s (at + 4)) (after (stored_at s at).what (get_or s (at + 1) 0) held) (after (stored_at s at).what i opens) good a b (held_side _ _ _ _ _ _ q) k (omega arith))

-- and each exit and its enter carry each other's number, where events carry any
pub true_mates : (w a b i k : ℕ) → paired w a b i k ≡ true → 12 ≤ w → (a ≡ i) × (b ≡ k)
unfolding paired choose
true_mates w a b i k q h =
    let t : and (eqb a i) (eqb b k) ≡ true = rw (le-ltb w 12 h) at q in
    (eqb-true _ _ (and_left _ _ t), eqb-true _ _ (and_right _ _ t))

pub truly_mates : (w : ℕ) (mates : ℕ → ℕ) (e : Event) (k : ℕ) (opens : List ℕ) → truly w mates e k opens ≡ true → 12 ≤ w → (e.kind ≡ 0 → ⊥) →
    (mates k ≡ innermost_of opens) × (mates (innermost_of opens) ≡ k)
unfolding truly choose
truly_mates w mates e k opens q h z = true_mates w (mates k) (mates (innermost_of opens)) (innermost_of opens) k (rw (ne_eqb e.kind 0 z) at q) h

judged_pairs : (w : ℕ) (mates : ℕ → ℕ) (n : ℕ) (s : List ℕ) (d i at last : ℕ) (held opens : List ℕ) (good : Reading) (a b : ℕ) →
    judge w mates (all_stored_at w n s at) d i at last held opens good ≡ accept a b → 12 ≤ w → (k : ℕ) → k < n → ((event_at s (at + w * k)).kind ≡ 0 → ⊥) →
    (mates (i + k) ≡ innermost_of (open_after (take k (events_by w n s at)) i opens)) × (mates (innermost_of (open_after (take k (events_by w n s at)) i opens)) ≡ i + k)
unfolding judge all_stored_at events_by open_after
judged_pairs w mates zero s d i at last held opens good a b q h k l z = absurd (omega arith)
judged_pairs w mates (suc n) s d i at last held opens good a b q h zero l z =
    let y : at + w * 0 ≡ at = omega arith in
    let x : i + 0 ≡ i = omega arith in
    let z' : (event_at s at).kind ≡ 0 → ⊥ = λ g. z (ap (λ (m : ℕ). (event_at s m).kind) y ∙ g) in
    rw x (truly_mates w mates (stored_at s at).what i opens (and_right _ _ (and_right _ _ (held_test _ _ _ _ _ _ q))) h z')
judged_pairs w mates (suc n) s d i at last held opens good a b q h (suc k) l z =
    let y : at + w * suc k ≡ at + w + w * k = omega arith in
    let x : i + suc k ≡ i + 1 + k = omega arith in
    let z' : (event_at s (at + w + w * k)).kind ≡ 0 → ⊥ = λ g. z (ap (λ (m : ℕ). (event_at s m).kind) y ∙ g) in
    rw x
    (judged_pairs w mates n s d (i + 1) (at + w) (u32_at s (at + 4)) (after (stored_at s at).what (get_or s (at + 1) 0) held) (after (stored_at s at).what i opens) good a b (held_side _ _ _ _ _ _ q) h k (omega arith) z')

-- a scan that finds none passes every byte
none_by : (z : Bool) (at n f : ℕ) → at + suc n ≤ choose z at f → (z ≡ false) × (at + 1 + n ≤ f)
unfolding choose
none_by true at n f h = absurd (omega arith)
none_by false at n f h = (refl, omega arith)

pub none_returned : (n : ℕ) (s : List ℕ) (at : ℕ) → at + n ≤ first_return n s at → (k : ℕ) → k < n → get_or s (at + k) 0 ≡ 13 → ⊥
unfolding first_return
none_returned zero s at h k l e = omega arith
none_returned (suc n) s at h zero l e =
    let z : at + 0 ≡ at = omega arith in
    let t : eqb (get_or s at 0) 13 ≡ false = (none_by _ _ _ _ h).0 in
    eqb-false _ _ t (ap (λ (m : ℕ). get_or s m 0) (sym z) ∙ e)
none_returned (suc n) s at h (suc k) l e =
    let z : at + suc k ≡ at + 1 + k = omega arith in
    none_returned n s (at + 1) (none_by _ _ _ _ h).1 k (omega arith) (ap (λ (m : ℕ). get_or s m 0) (sym z) ∙ e)

-- a scan that meets no carriage return ends behind the last byte
pub passes_all : (n : ℕ) (s : List ℕ) (at : ℕ) → ((k : ℕ) → k < n → get_or s (at + k) 0 ≡ 13 → ⊥) → first_return n s at ≡ at + n
unfolding first_return choose
passes_all zero s at f = omega arith
passes_all (suc n) s at f =
    let z : at + 0 ≡ at = omega arith in
    let no : get_or s at 0 ≡ 13 → ⊥ = λ q. f 0 (omega arith) (ap (λ (m : ℕ). get_or s m 0) z ∙ q) in
    let there : at + 1 + n ≡ at + suc n = omega arith in
    let more : (k : ℕ) → k < n → get_or s (at + 1 + k) 0 ≡ 13 → ⊥ =
    λ k h q. let y : at + suc k ≡ at + 1 + k = omega arith in f (suc k) (omega arith) (ap (λ (m : ℕ). get_or s m 0) y ∙ q) in
    rw (ne_eqb _ _ no) (passes_all n s (at + 1) more ∙ there)

good_end : (f : Form) (s : List ℕ) (d' e' d e : ℕ) → Fitted s f.front 16384 1 d' → Fitted s (4 + f.front + d') 2048 f.width e' → end_of f s d' e' ≡ accept d e → Known f → GoodIn f s d e
unfolding end_of inside_of events_in
good_end f s d' e' d e fd fe q k =
    let r₁ = held_side _ _ _ _ _ _ q in
    let r₂ = other_side _ _ _ _ _ _ r₁ in
    let g : accept d' e' ≡ accept d e = same_good _ _ _ _ _ _ _ _ _ _ _ _ r₂ in
    let same = same_counts d' e' d e g in
    let gd : d' ≡ d = same.0 in
    let ge : e' ≡ e = same.1 in
    let whole' : length s ≡ place_in f d' e' = eqb-true _ _ (held_test _ _ _ _ _ _ q) in
    let none' : 4 + f.front + d' ≤ first_return d' s (4 + f.front) = ltb-false _ _ (other_test _ _ _ _ _ _ r₁) in
    let sound' : sound_from 64 d' 0 [] (events_by f.width e' s (8 + f.front + d')) ≡ true = judged_sound _ _ _ _ _ _ _ _ _ _ _ _ _ r₂ in
    let zeros' : (k : ℕ) → k < e' → (stored_at s (place_in f d' k)).zeros ≡ 0 = judged_zeros _ _ _ _ _ _ _ _ _ _ _ _ _ r₂ in
    let pairs' : 12 ≤ f.width → (k : ℕ) → k < e' → ((event_at s (place_in f d' k)).kind ≡ 0 → ⊥) →
    (mate_in f s d' k ≡ innermost_of (open_at (events_by f.width e' s (8 + f.front + d')) k))
    × (mate_in f s d' (innermost_of (open_at (events_by f.width e' s (8 + f.front + d')) k)) ≡ k) =
    λ h k l z. let x : 0 + k ≡ k = omega arith in rw x at (judged_pairs f.width (mate_in f s d') e' s d' 0 (8 + f.front + d') 0 [] [] (accept d' e') d e r₂ h k l z) in
    let count_d : u32_at s f.front ≡ d' = fd.count in
    let count_e : u32_at s (4 + f.front + d') ≡ e' = fe.count in
    let small' : d' ≤ 16384 = fd.within in
    let few' : e' ≤ 2048 = fe.within in
    record {
      known = k;
      document_count = count_d ∙ gd;
      event_count = rw gd at count_e ∙ ge;
      small = rw gd at small';
      few = rw ge at few';
      whole = rw (gd, ge) at whole';
      no_return = none_returned d s (4 + f.front) (rw gd at none');
      sound_events = rw (gd, ge) at sound';
      zero_bytes = rw (gd, ge) at zeros';
      true_pairs = rw (gd, ge) at pairs';
    }

-- which count it was
fitting_fits : (c : Option ℕ) (x : Reading) (f : ℕ → Reading) (n p d e : ℕ) → x ≡ refuse n p → fitting c x f ≡ accept d e → (m : ℕ) × (c ≡ Some m) × (f m ≡ accept d e)
fitting_fits (Some m) x f n p d e r q = (m, refl, q)
fitting_fits None x f n p d e r q = absurd (never n p d e (sym r ∙ q))

pub good_record : (f : Form) (s : List ℕ) (d e : ℕ) → Known f → checked_in f s ≡ accept d e → GoodIn f s d e
unfolding checked_in event_count_of
good_record f s d e k q =
    let a = fitting_fits (count_at s f.front 16384 1) (refuse 3 f.front) (λ n. event_count_of f s n) 3 f.front d e refl q in
    let b = fitting_fits (count_at s (4 + f.front + a.0) 2048 f.width) (refuse 3 (4 + f.front + a.0)) (λ n. end_of f s a.0 n) 3 (4 + f.front + a.0) d e refl a.2 in
    good_end f s a.0 b.0 d e (fitted _ _ _ _ _ a.1) (fitted _ _ _ _ _ b.1) b.2 k

-- the two forms
pub old_known : Known old
old_known = record { wide = omega arith; slim = omega arith; near = omega arith }

pub second_known : Known second
second_known = record { wide = omega arith; slim = omega arith; near = omega arith }

pub form_known : (h : Handed) → Known (form_of h)
form_known (Old options) = old_known
form_known Second = second_known

-- what stands before the document's count, where the check lets it pass
abbrev pub FrontGood : Handed → List ℕ → Type 0
FrontGood (Old options) s = options ≤ 63
FrontGood Second s = (5 ≤ length s) × (u32_at s 0 ≡ 1) × (get_or s 4 0 ≤ 63)

front_good : (h : Handed) (s : List ℕ) (rest : Reading) (d e : ℕ) → fronted h s rest ≡ accept d e → FrontGood h s × (rest ≡ accept d e)
unfolding fronted
front_good (Old options) s rest d e q = (ltb-false _ _ (other_test _ _ _ _ _ _ q), other_side _ _ _ _ _ _ q)
front_good Second s rest d e q =
    let r₁ = other_side _ _ _ _ _ _ q in
    let r₂ = held_side _ _ _ _ _ _ r₁ in
    let r₃ = other_side _ _ _ _ _ _ r₂ in
    ((ltb-false _ _ (other_test _ _ _ _ _ _ r₂), eqb-true _ _ (held_test _ _ _ _ _ _ r₁), ltb-false _ _ (other_test _ _ _ _ _ _ r₃)), other_side _ _ _ _ _ _ r₃)

pub options_small : (h : Handed) (s : List ℕ) → FrontGood h s → options_of h s ≤ 63
options_small (Old options) s g = g
options_small Second s g = g.2

-- the same of a call's whole check, with the work memory and the front
pub record Admitted (h : Handed) (s : List ℕ) (works d e : ℕ) : Type 0 where
  pub memory : 65536 ≤ works
  pub front : FrontGood h s
  pub options_known : options_of h s ≤ 63
  pub good : GoodIn (form_of h) s d e

pub admission : (h : Handed) (s : List ℕ) (works d e : ℕ) → admitted h s works ≡ accept d e → Admitted h s works d e
unfolding admitted
admission h s works d e q =
    let r = front_good h s (checked_in (form_of h) s) d e (other_side _ _ _ _ _ _ q) in
    record {
      memory = ltb-false _ _ (other_test _ _ _ _ _ _ q);
      front = r.0;
      options_known = options_small h s r.0;
      good = good_record (form_of h) s d e (form_known h) r.1;
    }

-- the record that a call goes on with
pub admitted_good : (h : Handed) (s : List ℕ) (works d e : ℕ) (f : Form) → f ≡ form_of h → admitted h s works ≡ accept d e → GoodIn f s d e
admitted_good h s works d e f g q = rw g (admission h s works d e q).good
