-- The loop over a record's events: what is put, with what the events ahead come to, is what the whole comes to; and the runs of the events
-- ahead are the runs of the record from the next one on.
-- Assumes nothing.
use Prim.Native.Nat.{ℕ, suc, ◌+◌, ◌-◌, ◌*◌, ◌≤◌, ◌<◌}
use mathlib.Core.Path.{◌≡◌, refl, sym, ap, ◌∙◌}
use mathlib.Core.Bool.{Bool, true, false}
use mathlib.Core.List.{List, [], ◌∷◌, ◌++◌, append_assoc, append-nil}
use native.Mathlib.Omega.{arith}
use lib.Dec.{eqb}
use lib.ListN.{length, get_or, drop, length-drop}
use lib.Seq.{get_or-drop, drop-drop}
use Rattle.record.specs.Choice.{choose}
use Rattle.record.specs.Bytes.{u32_at}
use Rattle.record.specs.Form.{place_in}
use Rattle.record.specs.Event.{event_at, events_by, document_in, events_in}
use Rattle.record.specs.Partners.{balanced}
use Rattle.record.specs.Stack.{after}
use Rattle.record.specs.declared.event.Event.{Event}
use Rattle.record.specs.declared.form.Form.{Form}
use Rattle.record.proofs.Parts.{events_cons, event_room}
use Rattle.runs.specs.Runs.{Run, enters_run, run_of, runs_from, runs_of}
use Rattle.runs.specs.Plain.{Group}
use Rattle.runs.specs.Pieces.{remains}
use Rattle.runs.specs.Output.{leftover_events, run_events, replaced, no_run}
use Rattle.partners.specs.Pen.{Filled}
use Rattle.partners.specs.Section.{Ready, Puts}
use Rattle.partners.specs.declared.Section.{Section}
use Rattle.writing.specs.Kept.{Slotted, groups_in, run_kept, instead_of, next_run, runs_in, written_of}
use Rattle.partners.proofs.Pens.{start as pen-start, all_fit, all_put, filled}
use Rattle.partners.proofs.Sections.{puts_none, puts_then, ready_first, ready_then}

-- what comes of the first event, and of the others
replaced_first : (e : Event) (es : List Event) (rs : List Run) (gs : List Group) (q : ℕ) →
    replaced (e ∷ es) rs gs q ≡ instead_of e gs q (get_or rs q no_run) ++ replaced es rs gs (next_run e q)
unfolding replaced instead_of next_run choose
replaced_first e es rs gs q = go (enters_run e) refl (eqb e.name 1) refl
  where
    go : (z : Bool) → enters_run e ≡ z → (y : Bool) → eqb e.name 1 ≡ y →
        replaced (e ∷ es) rs gs q ≡ instead_of e gs q (get_or rs q no_run) ++ replaced es rs gs (next_run e q)
    go true x y f = rw x
    go false x true f = rw (x, f)
    go false x false f = rw (x, f)

-- the events of a run are those of any that has its place, size and marker
events_same : (gs : List Group) (q : ℕ) (r o : Run) → r.start ≡ o.start → r.size ≡ o.size → r.marker ≡ o.marker → run_events gs q r ≡ run_events gs q o
unfolding run_events leftover_events remains
events_same gs q r o a b c = rw (a, b, c)

-- the runs from number q on begin with this one
run_here : (rs xs : List Run) (x : Run) (q : ℕ) → x ∷ xs ≡ drop q rs → (q < length rs) × (get_or rs q no_run ≡ x) × (xs ≡ drop (q + 1) rs)
run_here rs xs x q e =
    let z : q + 0 ≡ q = omega arith in
    let l : suc (length xs) ≡ length (drop q rs) = ap length e in
    let g : get_or (drop q rs) 0 no_run ≡ get_or rs (q + 0) no_run = get_or-drop q rs 0 no_run in (
      omega (arith, l, length-drop q rs),
      ap (λ (i : ℕ). get_or rs i no_run) (sym z) ∙ (sym g ∙ ap (λ (l : List Run). get_or l 0 no_run) (sym e)),
      ap (λ (l : List Run). drop 1 l) e ∙ drop-drop 1 q rs,
    )

-- the next run is the one that the first event enters, and the runs of the other events follow
runs_first : (doc : List ℕ) (e : Event) (es : List Event) (k : ℕ) (held : List ℕ) (rs : List Run) (q : ℕ) → runs_from doc (e ∷ es) k held ≡ drop q rs →
    (enters_run e ≡ true → (q < length rs) × ((get_or rs q no_run).start ≡ e.place)) × (runs_from doc es (k + 1) (after e k held) ≡ drop (next_run e q) rs)
unfolding runs_from next_run choose
runs_first doc e es k held rs q h = go (enters_run e) refl
  where
    go : (z : Bool) → enters_run e ≡ z →
        (enters_run e ≡ true → (q < length rs) × ((get_or rs q no_run).start ≡ e.place)) × (runs_from doc es (k + 1) (after e k held) ≡ drop (next_run e q) rs)
    go true x =
        let f : run_of doc e es k held ∷ runs_from doc es (k + 1) (after e k held) ≡ drop q rs = rw x at h in
        let t = run_here rs (runs_from doc es (k + 1) (after e k held)) (run_of doc e es k held) q f in
        (λ y. (t.0, ap (λ (r : Run). r.start) t.1), rw x t.2)
    go false x =
        let f : runs_from doc es (k + 1) (after e k held) ≡ drop q rs = rw x at h in
        (λ y. let w : false ≡ true = sym x ∙ y in let z : ◌≡◌ {A = ℕ} 0 1 = cc in absurd (omega arith), rw x f)

-- for the events the slot serves as the run
instead_same : {w : List ℕ} {runs : ℕ} {rs : List Run} → Slotted w runs rs → (e : Event) (gs : List Group) (q : ℕ) →
    (enters_run e ≡ true → (q < length rs) × ((get_or rs q no_run).start ≡ e.place)) → instead_of e gs q (get_or rs q no_run) ≡ instead_of e gs q (run_kept w q e.place)
unfolding instead_of choose
instead_same {w} {runs} {rs} k e gs q h = go (enters_run e) refl
  where
    go : (z : Bool) → enters_run e ≡ z → instead_of e gs q (get_or rs q no_run) ≡ instead_of e gs q (run_kept w q e.place)
    go true x =
        let t = h x in
        let l : q < runs = omega (arith, t.0, k.as_many) in
        rw x (events_same gs q (get_or rs q no_run) (run_kept w q e.place) t.1 (sym (k.size q l)) (sym (k.marker q l)))
    go false x = rw x

-- k of e events are past, `width` bytes apart, the first of them at a place of the record, and the next run is q
pub record Writing (width : ℕ) (out₀ : Section) (s w doc : List ℕ) (n : ℕ) (rs : List Run) (total : List Event) (out : Section) (first e k q : ℕ) :
    Type 0 where
  pub written : List Event
  pub number : ℕ
  pub held : List ℕ
  pub inside : first + width * e ≤ length s
  pub put : Puts out₀ written out
  pub whole : total ≡ written ++ replaced (events_by width (e - k) s (first + width * k)) rs (groups_in w n) q
  pub runs_ahead : runs_from doc (events_by width (e - k) s (first + width * k)) number held ≡ drop q rs

pub start : (f : Form) (out : Section) (s w : List ℕ) (d e n : ℕ) → place_in f d e ≤ length s →
    Writing f.width out s w (document_in f s d) n (runs_in f s d e) (written_of f s d e w n) out (8 + f.front + d) e 0 0
unfolding runs_of events_in
start f out s w d e n h =
    let l : e - 0 ≡ e = omega arith in
    let z : 8 + f.front + d + f.width * 0 ≡ 8 + f.front + d = omega arith in
    record { written = []; number = 0; held = []; inside = h; put = puts_none out; whole = rw (l, z); runs_ahead = rw (l, z) }

module _ {width : ℕ} {out₀ : Section} {s w doc : List ℕ} {n : ℕ} {rs : List Run} {total : List Event} {out : Section} {first e k q : ℕ}
    (c : Writing width out₀ s w doc n rs total out first e k q) (more : k < e) {runs : ℕ} (slots : Slotted w runs rs) where
  abbrev read : ℕ
  read = first + width * k

  -- the next event is whole
  pub whole_ahead : read + width ≤ length s
  whole_ahead = event_room width e k first (length s) c.inside more

  -- what the next event gives
  abbrev given : List Event
  given = instead_of (event_at s read) (groups_in w n) q (run_kept w q (u32_at s (read + 4)))

  abbrev rest : List Event
  rest = replaced (events_by width (e - (k + 1)) s (first + width * (k + 1))) rs (groups_in w n) (next_run (event_at s read) q)

  split : events_by width (e - k) s read ≡ event_at s read ∷ events_by width (e - (k + 1)) s (first + width * (k + 1))
  split =
      let on : first + width * k + width ≡ first + width * (k + 1) = omega arith in
      events_cons width (e - k) (e - (k + 1)) s read (omega arith)
      ∙ ap (λ (a : ℕ). event_at s read ∷ events_by width (e - (k + 1)) s a) on

  first_run : (enters_run (event_at s read) ≡ true → (q < length rs) × ((get_or rs q no_run).start ≡ u32_at s (read + 4)))
      × (runs_from doc (events_by width (e - (k + 1)) s (first + width * (k + 1))) (c.number + 1) (after (event_at s read) c.number c.held) ≡
      drop (next_run (event_at s read) q) rs)
  first_run =
      runs_first doc (event_at s read) (events_by width (e - (k + 1)) s (first + width * (k + 1))) c.number c.held rs q
      (ap (λ (l : List Event). runs_from doc l c.number c.held) (sym split) ∙ c.runs_ahead)

  whole_is : total ≡ c.written ++ (given ++ rest)
  whole_is =
      c.whole
      ∙ ap (λ (l : List Event). c.written ++ l)
      (ap (λ (l : List Event). replaced l rs (groups_in w n) q) split
      ∙ (replaced_first (event_at s read) (events_by width (e - (k + 1)) s (first + width * (k + 1))) rs (groups_in w n) q
      ∙ ap (λ (l : List Event). l ++ rest) (instead_same slots (event_at s read) (groups_in w n) q first_run.0)))

  -- what the step asks
  pub known : enters_run (event_at s read) ≡ true → q < runs
  known x = let t = (first_run.0 x).0 in omega (arith, t, slots.as_many)

  pub room : Ready out₀ total → Ready out given
  room h = ready_first given rest (ready_then c.written (given ++ rest) c.put (rw whole_is at h))

  -- one event more
  pub turn : {out' : Section} {q' : ℕ} → Puts out given out' → q' ≡ next_run (event_at s read) q →
      Writing width out₀ s w doc n rs total out' first e (k + 1) q'
  turn v x =
      record {
        written = c.written ++ given;
        number = c.number + 1;
        held = after (event_at s read) c.number c.held;
        inside = c.inside;
        put = puts_then c.written given c.put v;
        whole = rw x (whole_is ∙ sym (append_assoc c.written given rest));
        runs_ahead = rw x first_run.1;
      }

-- no event is ahead
pub ended : {width : ℕ} {out₀ : Section} {s w doc : List ℕ} {n : ℕ} {rs : List Run} {total : List Event} {out : Section} {first e k q : ℕ} →
    Writing width out₀ s w doc n rs total out first e k q → e ≤ k → Puts out₀ total out
unfolding events_by replaced
ended {e = e} {k = k} c h =
    let z : e - k ≡ 0 = omega arith in
    let l = rw z at c.whole in
    rw (l, append-nil) c.put

-- the section before its first event, and at its end
module _ {w n : ℕ} {b : List ℕ} {es : List Event} {out : Section} (o : out.out.now ≡ b)
    (e : out.pen ≡ record { at = 4; width = w; number = 0; held = 12 + 12 * n }) (l : length es ≡ n) (few : n ≤ 8000) (bal : balanced es ≡ true) (h : 8 ≤ w)
    (room : 4 + w * n ≤ length b) where
  pub begins : Ready out es
  begins = record { fits = rw o (all_fit (pen-start w n b es e l few bal h room)) }

  pub ends : {out' : Section} → Puts out es out' → Filled w b es out'.out.now
  ends u = filled (all_put (pen-start w n b es e l few bal h room) (rw o at u.put))
