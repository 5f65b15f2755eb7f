-- Laws of a pen: some events put and then more; the pen before the first event; and what stands there when all have been put, a section in a form.
-- Assumes nothing.
use mathlib.Core.Path.{◌≡◌, refl, sym, ap, ◌∙◌, subst}
use mathlib.Core.Bool.{true}
use mathlib.Core.Logic.{◌⊎◌, inl, inr}
use mathlib.Core.List.{List, [], ◌∷◌, ◌++◌, append-nil, append_assoc}
use Prim.Native.Nat.{ℕ, ◌+◌, ◌*◌, ◌≤◌, ◌<◌}
use native.Mathlib.Nat.{mul-le-mul_right}
use native.Mathlib.Omega.{arith}
use lib.ListN.{length, get_or, drop, length-append}
use lib.Seq.{drop-drop, drop-append_seam, take-length}
use Rattle.record.specs.Bytes.{u32_bytes, Wrote}
use Rattle.record.specs.Event.{flat}
use Rattle.record.specs.Outcome.{onto}
use Rattle.record.specs.Partners.{balanced, partners, flat_linked, section_in}
use Rattle.record.specs.Stack.{open_at}
use Rattle.record.specs.declared.event.Event.{Event}
use Rattle.record.proofs.Sections.{section}
use Rattle.record.proofs.Splice.{wrote_none}
use Rattle.partners.specs.Laws.{partner_of}
use Rattle.partners.specs.Pen.{Holds, Apart, At, Fits, Put, Filled, FilledIsSection}
use Rattle.partners.specs.declared.Pen.{Pen}
use Rattle.partners.proofs.Laws.{partner_inside}
use Rattle.partners.proofs.Memory.{side, all_written}
use Rattle.partners.proofs.Opened.{open_none}
use Rattle.partners.proofs.Walk.{length_partners}
use Rattle.partners.proofs.Written.{section_narrow, section_wide, linked_section}

-- a pen behind so many events, where the number of these is known by an equation
pub at_number : {w : ℕ} {b : List ℕ} {es : List Event} {i k : ℕ} {d : List ℕ} {p : Pen} → i ≡ k → At w b es i d p → At w b es k d p
at_number {w} {b} {es} {i} {k} {d} {p} e a = subst (λ (m : ℕ). At w b es m d p) e a

-- nothing is put
pub put_none : (d : List ℕ) (p : Pen) → Put d p [] d p
put_none d p = record { goes = λ w b es i rest a n. at_number (omega arith) a; same = refl }

-- behind the first events stand the next
behind : (es fs gs rest : List Event) (i : ℕ) → drop i es ≡ (fs ++ gs) ++ rest → drop (i + length fs) es ≡ gs ++ rest
behind es fs gs rest i e =
    sym (drop-drop (length fs) i es) ∙ ap (drop (length fs)) (e ∙ append_assoc fs gs rest) ∙ drop-append_seam fs (gs ++ rest)

-- some events, and then more
pub put_then : {d d₁ d₂ : List ℕ} {p p₁ p₂ : Pen} (fs gs : List Event) → Put d p fs d₁ p₁ → Put d₁ p₁ gs d₂ p₂ → Put d p (fs ++ gs) d₂ p₂
put_then fs gs u v =
    record {
      goes =
          λ w b es i rest a n.
          at_number (omega (arith, length-append fs gs))
          (v.goes w b es (i + length fs) rest (u.goes w b es i (gs ++ rest) a (n ∙ append_assoc fs gs rest)) (behind es fs gs rest i n));
      same = v.same ∙ u.same;
    }

-- what is ready for all is ready for the first
pub fits_first : {d : List ℕ} {p : Pen} (fs gs : List Event) → Fits d p (fs ++ gs) → Fits d p fs
fits_first fs gs f =
    record { w = f.w; b = f.b; es = f.es; i = f.i; rest = gs ++ f.rest; at = f.at; next = f.next ∙ append_assoc fs gs f.rest }

-- and, when these are put, for the others
pub fits_then : {d d₁ : List ℕ} {p p₁ : Pen} (fs gs : List Event) → Put d p fs d₁ p₁ → Fits d p (fs ++ gs) → Fits d₁ p₁ gs
fits_then fs gs u f =
    record {
      w = f.w;
      b = f.b;
      es = f.es;
      i = f.i + length fs;
      rest = f.rest;
      at = u.goes f.w f.b f.es f.i (gs ++ f.rest) f.at (f.next ∙ append_assoc fs gs f.rest);
      next = behind f.es fs gs f.rest f.i f.next;
    }

-- the same of one event and those behind it: the form for a run of calls
pub put_first : {d d₁ d₂ : List ℕ} {p p₁ p₂ : Pen} {e : Event} {gs : List Event} → Put d p (e ∷ []) d₁ p₁ → Put d₁ p₁ gs d₂ p₂ → Put d p (e ∷ gs) d₂ p₂
put_first {e = e} {gs = gs} u v = put_then (e ∷ []) gs u v

pub fits_one : {d : List ℕ} {p : Pen} {e : Event} {gs : List Event} → Fits d p (e ∷ gs) → Fits d p (e ∷ [])
fits_one {e = e} {gs = gs} f = fits_first (e ∷ []) gs f

pub fits_rest : {d d₁ : List ℕ} {p p₁ : Pen} {e : Event} {gs : List Event} → Put d p (e ∷ []) d₁ p₁ → Fits d p (e ∷ gs) → Fits d₁ p₁ gs
fits_rest {e = e} {gs = gs} u f = fits_then (e ∷ []) gs u f

-- the pen before the first event

flat_none : (b : List ℕ) → Wrote b 4 (flat []) b
unfolding flat
flat_none b = wrote_none b 4

pub start : (w n : ℕ) (b : List ℕ) (es : List Event) {p : Pen} → p ≡ record { at = 4; width = w; number = 0; held = 12 + 12 * n } → length es ≡ n →
    n ≤ 8000 → balanced es ≡ true → 8 ≤ w → 4 + w * n ≤ length b → At w b es 0 b p
start w n b es {p} e l few bal h room =
    record {
      balance = bal;
      few = omega arith;
      within = omega arith;
      width = ap (λ (q : Pen). q.width) e;
      size = refl;
      narrow =
          λ g.
          let m : 8 * n ≤ w * n = mul-le-mul_right n h in
          record { room = omega arith; place = ap (λ (q : Pen). q.at) e ∙ zero_of 8; wrote = flat_none b };
      wide =
          λ g.
          let m : 12 * n ≤ w * n = mul-le-mul_right n g in
          let held : p.held ≡ 12 + 12 * n = ap (λ (q : Pen). q.held) e in
          let none : length (open_at es 0) ≡ 0 = ap length open_none in
          record {
            room = omega arith;
            place = ap (λ (q : Pen). q.at) e ∙ zero_of 12;
            count = ap (λ (q : Pen). q.number) e;
            top = omega arith;
            outside = λ j o. refl;
            stand = λ k o. absurd (omega arith);
            linked = λ k o. absurd (omega arith);
            kept = λ j o. absurd (omega arith);
          };
    }
  where
    zero_of : (k : ℕ) → 4 ≡ 4 + k * 0
    zero_of k = omega arith

pub all_fit : {w : ℕ} {b d : List ℕ} {es : List Event} {p : Pen} → At w b es 0 d p → Fits d p es
all_fit {w} {b} {d} {es} {p} a = record { w = w; b = b; es = es; i = 0; rest = []; at = a; next = sym (append-nil es) }

-- all events are put

pub all_put : {w : ℕ} {b d d₁ : List ℕ} {es : List Event} {p p₁ : Pen} → At w b es 0 d p → Put d p es d₁ p₁ → At w b es (length es) d₁ p₁
all_put {w} {b} {d} {d₁} {es} {p} {p₁} a u = at_number (omega arith) (u.goes w b es 0 [] a (sym (append-nil es)))

all_apart : {b : List ℕ} {es : List Event} {d : List ℕ} {p : Pen} → balanced es ≡ true → length d ≡ length b → Apart b es (length es) d p →
    Wrote b 4 (flat_linked es) d
unfolding flat_linked
all_apart {b} {es} {d} {p} bal size a =
    record {
      same =
          all_written es (partners es) b d 4 (length_partners es) size a.room a.outside a.stand
          (λ k h. moved k (a.linked k h (partner_inside es bal k h)));
    }
  where
    moved : (k : ℕ) → Holds d (12 + 12 * k) (u32_bytes (partner_of es k)) → Holds d (4 + 12 * k + 8) (u32_bytes (get_or (partners es) k 0))
    moved k s =
        let e : 12 + 12 * k ≡ 4 + 12 * k + 8 = omega arith in
        subst (λ (m : ℕ). Holds d m (u32_bytes (partner_of es k))) e s

pub filled : {w : ℕ} {b : List ℕ} {es : List Event} {d : List ℕ} {p : Pen} → At w b es (length es) d p → Filled w b es d
filled {w} {b} {es} {d} {p} a =
    record {
      narrow = λ h. subst (λ (l : List Event). Wrote b 4 (flat l) d) (take-length es) (a.narrow h).wrote;
      wide = λ h. all_apart a.balance a.size (a.wide h);
    }

pub filled_section : FilledIsSection
filled_section f es out b d h room c v = go (side f.width 12)
  where
    go : (f.width < 12) ⊎ (12 ≤ f.width) → d ≡ onto (section_in f es) out
    go (inl g) =
        let m : 8 * length es ≤ f.width * length es = mul-le-mul_right (length es) h in
        section es (length es) refl (omega arith) c (v.narrow g) ∙ ap (λ (x : List ℕ). onto x out) (sym (section_narrow f es g))
    go (inr g) =
        let m : 12 * length es ≤ f.width * length es = mul-le-mul_right (length es) g in
        linked_section es (omega arith) c (v.wide g) ∙ ap (λ (x : List ℕ). onto x out) (sym (section_wide f es g))
