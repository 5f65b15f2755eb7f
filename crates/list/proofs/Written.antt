-- The second pass: what is put so far, and what is still to come, is the whole result.
-- Assumes nothing.
use mathlib.Core.Path.{◌≡◌, refl, sym, ap, ◌∙◌}
use mathlib.Core.Bool.{Bool, true, false, not}
use mathlib.Core.List.{List, [], ◌∷◌, ◌++◌, append_assoc, append-nil}
use Prim.Native.Nat.{ℕ, suc, ◌+◌, ◌*◌, ◌≤◌, ◌<◌}
use native.Mathlib.Numerals.{add-one}
use native.Mathlib.Omega.{arith}
use lib.ListN.{length, get_or, drop}
use lib.Seq.{drop-cons}
use Rattle.std.proofs.lemmas.List.{drop_all}
use lib.Dec.{eqb}
use borrow.Author.Tests.{eq-eqb, ne_eqb}
use Rattle.record.specs.Choice.{choose}
use Rattle.record.specs.Bytes.{Wrote, u32_bytes}
use Rattle.record.specs.Event.{event, enter, exit}
use Rattle.record.specs.Outcome.{onto}
use Rattle.record.specs.Partners.{section_in}
use Rattle.record.specs.Stack.{nth}
use Rattle.record.specs.declared.event.Event.{Event}
use Rattle.record.specs.declared.form.Form.{Form}
use Rattle.partners.specs.Pen.{At, Fits}
use Rattle.partners.specs.Section.{Ready, Puts}
use Rattle.partners.specs.declared.Section.{Section}
use Rattle.partners.proofs.Pens.{all_fit, all_put, filled, filled_section}
use Rattle.partners.proofs.Sections.{puts_none, puts_then, ready_first, ready_then}
use Rattle.list.specs.Walk.{noted, spliced}

-- the three cases of what a note adds on one side of an event
module _ (here : Bool) (side n place : ℕ) where
  one_here : (n ≡ 0 → ⊥) → here ≡ true → choose (eqb n 0) [] (choose here (event side n place ∷ []) []) ≡ event side n place ∷ []
  unfolding choose
  one_here h k = rw (ne_eqb _ _ h, k)

  module _ {s : Section} where
    pub none_added : n ≡ 0 → Puts s (choose (eqb n 0) [] (choose here (event side n place ∷ []) [])) s
    unfolding choose
    none_added h = rw (eq-eqb _ _ h) (puts_none s)

    pub none_here : (n ≡ 0 → ⊥) → here ≡ false → Puts s (choose (eqb n 0) [] (choose here (event side n place ∷ []) [])) s
    unfolding choose
    none_here h k = rw (ne_eqb _ _ h, k) (puts_none s)

    pub one_fits : (n ≡ 0 → ⊥) → here ≡ true → Ready s (choose (eqb n 0) [] (choose here (event side n place ∷ []) [])) → Ready s (event side n place ∷ [])
    one_fits h k f = rw (one_here h k) at f

    pub one_added : (n ≡ 0 → ⊥) → here ≡ true → {s₁ : Section} → Puts s (event side n place ∷ []) s₁ →
        Puts s (choose (eqb n 0) [] (choose here (event side n place ∷ []) [])) s₁
    one_added h k u = rw (one_here h k) u

-- a noted event is what the note adds before it, the event, and what the note adds behind it
parts_by : (b k : Bool) (n : ℕ) (x : Event) →
    choose b (x ∷ []) (choose k (enter n x.place ∷ x ∷ []) (x ∷ exit n x.place ∷ []))
    ≡ (choose b [] (choose k (enter n x.place ∷ []) []) ++ (x ∷ [])) ++ choose b [] (choose (not k) (exit n x.place ∷ []) [])
unfolding choose
parts_by true k n x = refl
parts_by false true n x = refl
parts_by false false n x = refl

module _ (x : Event) (n : ℕ) where
  abbrev before : List Event
  before = choose (eqb n 0) [] (choose (eqb x.kind 0) (event 0 n x.place ∷ []) [])

  abbrev behind : List Event
  behind = choose (eqb n 0) [] (choose (not (eqb x.kind 0)) (event 1 n x.place ∷ []) [])

  parts : noted n x [] ≡ (before ++ (x ∷ [])) ++ behind
  unfolding noted
  parts = parts_by (eqb n 0) (eqb x.kind 0) n x

  module _ {s : Section} where
    module _ (f : Ready s (noted n x [])) where
      all_parts : Ready s ((before ++ (x ∷ [])) ++ behind)
      all_parts = rw parts at f

      pub before_fits : Ready s before
      before_fits = ready_first before (x ∷ []) (ready_first (before ++ (x ∷ [])) behind all_parts)

      module _ {s₁ : Section} (u : Puts s before s₁) where
        pub event_fits : Ready s₁ (x ∷ [])
        event_fits = ready_then before (x ∷ []) u (ready_first (before ++ (x ∷ [])) behind all_parts)

        pub behind_fits : {s₂ : Section} → Puts s₁ (x ∷ []) s₂ → Ready s₂ behind
        behind_fits v = ready_then (before ++ (x ∷ [])) behind (puts_then before (x ∷ []) u v) all_parts

    pub noted_put : {s₁ s₂ s₃ : Section} → Puts s before s₁ → Puts s₁ (x ∷ []) s₂ → Puts s₂ behind s₃ →
        Puts s (noted n x []) s₃
    noted_put u v w =
        rw parts (puts_then (before ++ (x ∷ [])) behind (puts_then before (x ∷ []) u v) w)

-- what is behind a noted event
noted_by : (b k : Bool) (n : ℕ) (x : Event) (es : List Event) →
    choose b (x ∷ es) (choose k (enter n x.place ∷ x ∷ es) (x ∷ exit n x.place ∷ es))
    ≡ choose b (x ∷ []) (choose k (enter n x.place ∷ x ∷ []) (x ∷ exit n x.place ∷ [])) ++ es
unfolding choose
noted_by true k n x es = refl
noted_by false true n x es = refl
noted_by false false n x es = refl

noted_append : (n : ℕ) (x : Event) (es : List Event) → noted n x es ≡ noted n x [] ++ es
unfolding noted
noted_append n x es = noted_by (eqb n 0) (eqb x.kind 0) n x es

-- the loop's invariant: `done` are the events put
pub record Writing (width : ℕ) (es : List Event) (work : List ℕ) (s₁ s : Section) (i : ℕ) : Type 0 where
  pub begun : At width s₁.out.now (spliced work es) 0 s₁.out.now s₁.pen
  pub done : List Event
  pub put : Puts s₁ done s
  pub rest : done ++ spliced (drop i work) (drop i es) ≡ spliced work es

pub before_all : (width : ℕ) (es : List Event) (work : List ℕ) (s : Section) (out : List ℕ) → s.out.now ≡ out →
    At width out (spliced work es) 0 out s.pen → Writing width es work s s 0
before_all width es work s out o a = record { begun = rw o a; done = []; put = puts_none s; rest = refl }

spliced_some : (ns : List ℕ) (n : ℕ) (ms : List ℕ) (ys : List Event) (x : Event) (xs : List Event) → ns ≡ n ∷ ms → ys ≡ x ∷ xs → spliced ns ys ≡ noted n x (spliced ms xs)
unfolding spliced
spliced_some ns n ms ys x xs h k = rw (h, k)

spliced_none : (ns : List ℕ) → spliced ns [] ≡ []
unfolding spliced
spliced_none [] = refl
spliced_none (n ∷ ns) = refl

module _ {width : ℕ} {es : List Event} {work : List ℕ} {s₁ s : Section} {i : ℕ} (v : Writing width es work s₁ s i) where
  module _ (more : i < length es) (room : length es ≤ length work) (x : Event) (ex : x ≡ nth es i) where
    here : spliced (drop i work) (drop i es) ≡ noted (get_or work i 0) x [] ++ spliced (drop (i + 1) work) (drop (i + 1) es)
    here =
        rw (ex, add-one i)
        (spliced_some (drop i work) (get_or work i 0) (drop (suc i) work) (drop i es) (nth es i) (drop (suc i) es) (drop-cons work i 0 (omega arith))
        (drop-cons es i (record { kind = 0; name = 0; place = 0 }) more)
        ∙ noted_append (get_or work i 0) (nth es i) (spliced (drop (suc i) work) (drop (suc i) es)))

    abbrev next : List Event
    next = noted (get_or work i 0) x []

    abbrev later : List Event
    later = spliced (drop (i + 1) work) (drop (i + 1) es)

    rest_next : (v.done ++ next) ++ later ≡ spliced work es
    rest_next = append_assoc v.done next later ∙ sym (ap (λ (ys : List Event). v.done ++ ys) here) ∙ v.rest

    pub next_fits : Ready s next
    next_fits =
        let a : Fits s₁.out.now s₁.pen ((v.done ++ next) ++ later) = rw rest_next (all_fit v.begun) in
        ready_then v.done next v.put (ready_first (v.done ++ next) later (record { fits = a }))

    pub turn : {s' : Section} → Puts s next s' → Writing width es work s₁ s' (i + 1)
    turn u =
        record {
          begun = v.begun;
          done = v.done ++ next;
          put = puts_then v.done next v.put u;
          rest = rest_next;
        }

-- the end
pub all_written : (f : Form) (es : List Event) {work out₀ out₁ : List ℕ} {s₁ s : Section} {i : ℕ} → Writing f.width es work s₁ s i → s₁.out.now ≡ out₁ →
    length es ≤ i → 8 ≤ f.width → (count : ℕ) → length (spliced work es) ≡ count →
    4 + f.width * count ≤ length out₀ → Wrote out₀ 0 (u32_bytes count) out₁ → s.out.now ≡ onto (section_in f (spliced work es)) out₀
all_written f es {work} {out₀} {out₁} {s₁} {s} {i} v o h wide count long room w =
    let none : spliced (drop i work) (drop i es) ≡ [] = ap (λ ys. spliced (drop i work) ys) (drop_all i es h) ∙ spliced_none (drop i work) in
    let all : v.done ≡ spliced work es = sym (append-nil v.done) ∙ sym (ap (λ (ys : List Event). v.done ++ ys) none) ∙ v.rest in
    let u : Puts s₁ (spliced work es) s = rw all at v.put in
    let room' : 4 + f.width * length (spliced work es) ≤ length out₀ = rw long room in
    let w' : Wrote out₀ 0 (u32_bytes (length (spliced work es))) s₁.out.now = rw (long, o) w in
    filled_section f (spliced work es) out₀ s₁.out.now s.out.now wide room' w' (filled (all_put v.begun u.put))
