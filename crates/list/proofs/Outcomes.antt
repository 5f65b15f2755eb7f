-- What the two passes find is what the definition gives; and the answer and the output in each case.
-- Assumes nothing.
use Prim.Native.Nat.{ℕ, suc, ◌+◌, ◌*◌, ◌≤◌, ◌<◌}
use mathlib.Core.Path.{◌≡◌, refl, sym, ap, ◌∙◌}
use mathlib.Core.Bool.{Bool, true, false}
use mathlib.Core.List.{List, [], ◌∷◌}
use native.Mathlib.Omega.{arith}
use lib.ListN.{length, take}
use lib.Dec.{eqb}
use Rattle.std.specs.Prelude.{Result, Ok, Err}
use Rattle.record.specs.Choice.{choose}
use Rattle.record.specs.Form.{place_in}
use Rattle.record.specs.Handed.{form_of}
use Rattle.record.specs.Event.{document_in, events_in, enter, exit}
use Rattle.record.specs.Sound.{sound}
use Rattle.record.specs.Check.{admitted, accept}
use Rattle.record.specs.Outcome.{offends, gives, settled, onto}
use Rattle.record.specs.Partners.{balanced, section_in}
use Rattle.record.specs.Stack.{outer}
use Rattle.record.specs.Promise.{Answered}
use Rattle.record.specs.declared.event.Event.{Event}
use Rattle.record.specs.declared.form.Form.{Form}
use Rattle.record.specs.declared.listed.Offender.{Offender}
use Rattle.record.specs.declared.form.Handed.{Handed}
use Rattle.record.specs.declared.check.Refusal.{Refusal}
use Rattle.record.proofs.Output.{onto_none}
use Rattle.partners.proofs.Laws.{sound_balanced}
use Rattle.partners.proofs.Settled.{offended, too_short, written as section-written}
use Rattle.list.proofs.Nesting.{nested}
use Rattle.list.specs.Tree.{Row, written, tree_of}
use Rattle.list.proofs.Reading.{tree_written}
use Rattle.list.specs.Lists.{offenders, listed, settling, lists}
use Rattle.list.specs.Walk.{offenders_in, mark_in, nearest, top, notes, noted, spliced, added}
use Rattle.list.specs.Noting.{finding, Noted}
use Rattle.list.specs.Promise.{outcome_of, answer_of}
use Rattle.list.proofs.Trees.{ended, offenders_written}
use Rattle.list.proofs.Earliest.{all_shaped}
use Rattle.list.proofs.Chains.{walked, listed_walked}

-- what a finding says of the offending items and of the notes
event_in : Result ℕ Offender → ℕ
event_in (Ok n) = n
event_in (Err o) = o.event

found_offence : (k : ℕ) (ks ns : List ℕ) → Err (record { event = k }) ≡ finding ks ns → (rest : List ℕ) × (ks ≡ k ∷ rest)
unfolding event_in
found_offence k [] ns q = let z : ◌≡◌ {A = ℕ} 0 1 = cc in absurd (omega arith)
found_offence k (j ∷ ks) ns q = let z : k ≡ j = ap event_in q in (ks, ap (λ (m : ℕ). m ∷ ks) (sym z))

found_none : (n : ℕ) (ks ns : List ℕ) → Ok n ≡ finding ks ns → (ks ≡ []) × (n ≡ added ns)
found_none n [] ns q = (refl, cc)
found_none n (j ∷ ks) ns q = let z : ◌≡◌ {A = ℕ} 0 1 = cc in absurd (omega arith)

-- only as many notes count as there are events
spliced_take : (w : List ℕ) (es : List Event) → spliced (take (length es) w) es ≡ spliced w es
unfolding spliced
spliced_take [] [] = refl
spliced_take (n ∷ w) [] = refl
spliced_take [] (x ∷ es) = refl
spliced_take (n ∷ w) (x ∷ es) = ap (λ (l : List Event). noted n x l) (spliced_take w es)

long_by : (b k : Bool) (n : ℕ) (x : Event) (es : List Event) (m : ℕ) → length es ≡ m →
    length (choose b (x ∷ es) (choose k (enter n x.place ∷ x ∷ es) (x ∷ exit n x.place ∷ es))) ≡ suc m + choose b 0 1
unfolding choose
long_by true k n x es m h = omega arith
long_by false true n x es m h = omega arith
long_by false false n x es m h = omega arith

spliced_long : (ns : List ℕ) (es : List Event) → length ns ≡ length es → length (spliced ns es) ≡ length es + added ns
unfolding spliced added noted
spliced_long [] [] h = refl
spliced_long (n ∷ ns) [] h = absurd (omega arith)
spliced_long [] (x ∷ es) h = absurd (omega arith)
spliced_long (n ∷ ns) (x ∷ es) h =
    let i : length (spliced ns es) ≡ length es + added ns = spliced_long ns es (omega arith) in
    omega (arith, long_by (eqb n 0) (eqb x.kind 0) n x (spliced ns es) (length es + added ns) i)

notes_by : (a b : Bool) (x y z : List ℕ) (m : ℕ) → length x ≡ m → length y ≡ m → length z ≡ m → length (choose a (choose b x y) z) ≡ m
unfolding choose
notes_by true true x y z m p q r = p
notes_by true false x y z m p q r = q
notes_by false b x y z m p q r = r

notes_long : (document : List ℕ) (joined : Bool) (marks : List ℕ) (es : List Event) → length (notes document joined marks es) ≡ length es
unfolding notes
notes_long document joined marks [] = refl
notes_long document joined marks (x ∷ es) =
    notes_by _ _ _ _ _ (suc (length es))
    (ap suc (notes_long document false (mark_in document es ∷ marks) es))
    (ap suc (notes_long document (eqb (nearest document 0 es) (top marks)) (outer marks) es))
    (ap suc (notes_long document joined marks es))

false_not : false ≡ true → ⊥
false_not q = let z : ◌≡◌ {A = ℕ} 0 1 = cc in omega arith

nothing_walked : (document : List ℕ) (row : Row) → listed document false row (walked document false [] []) ≡ listed document false row []
unfolding walked spliced notes
nothing_walked document row = refl

module _ (document : List ℕ) (es : List Event) (d : ℕ) (c : sound 64 d es ≡ true) where
  tree_whole : written (tree_of es) [] ≡ es
  tree_whole = tree_written 64 d es c

  same_offenders : offenders_in document 0 false es ≡ offenders document 0 false (tree_of es) []
  unfolding offenders_in
  same_offenders =
      sym (ap (λ ys. offenders_in document 0 false ys) tree_whole)
      ∙ offenders_written document 0 false (tree_of es) ended

  -- an offence is the definition's
  pub offence_same : (k : ℕ) (ks : List ℕ) → offenders_in document 0 false es ≡ k ∷ ks → lists document es ≡ offends k
  unfolding lists
  offence_same k ks q =
      let r : offenders document 0 false (tree_of es) [] ≡ k ∷ ks = sym same_offenders ∙ q in
      ap (λ (x : List ℕ). settling x (listed document false (tree_of es) [])) r

  -- and so is the result
  pub result_same : offenders_in document 0 false es ≡ [] →
      lists document es ≡ gives (spliced (notes document false [] es) es)
  unfolding lists walked
  result_same q =
      let t : Row = tree_of es in
      let r : offenders document 0 false t [] ≡ [] = sym same_offenders ∙ q in
      let a = all_shaped document 0 false t [] r in
      let w : walked document false [] (written t []) ≡ listed document false t (walked document false [] []) =
      listed_walked document false [] t ended a.0 (λ x y. absurd (false_not x)) in
      ap (λ (x : List ℕ). settling x (listed document false t [])) r
      ∙ ap gives (sym (nothing_walked document t) ∙ sym w ∙ ap (λ ys. walked document false [] ys) tree_whole)

  -- what the first pass found, as the definition has it
  module _ {r : Result ℕ Offender} {w : List ℕ} (n : Noted document es r w) where
    pub noted_offends : (k : ℕ) → r ≡ Err (record { event = k }) → lists document es ≡ offends k
    noted_offends k q =
        let o = found_offence k (offenders_in document 0 false es) (notes document false [] es) (sym q ∙ n.answer) in
        offence_same k o.0 o.1

    module _ (m : ℕ) (q : r ≡ Ok m) where
      pub noted_same : spliced (notes document false [] es) es ≡ spliced w es
      noted_same =
          let k = n.kept m q in
          sym (ap (λ (l : List ℕ). spliced l es) k.0) ∙ spliced_take w es

      found : (offenders_in document 0 false es ≡ []) × (m ≡ added (notes document false [] es))
      found = found_none m (offenders_in document 0 false es) (notes document false [] es) (sym q ∙ n.answer)

      pub noted_gives : lists document es ≡ gives (spliced w es)
      noted_gives = result_same found.0 ∙ ap gives noted_same

      pub noted_long : length (spliced w es) ≡ length es + m
      noted_long =
          let long : length (spliced (notes document false [] es) es) ≡ length es + added (notes document false [] es) =
          spliced_long (notes document false [] es) es (notes_long document false [] es) in
          omega (arith, ap length noted_same, long, found.1)

-- at most one event is added for each
pub few_added : (document : List ℕ) (es : List Event) (e : ℕ) → length es ≡ e → e ≤ 2048 → {r : Result ℕ Offender} {w : List ℕ} → Noted document es r w → (m : ℕ) → r ≡ Ok m → e + m ≤ 8000
few_added document es e le few n m q = omega (arith, (n.kept m q).1)

-- in the result every enter has its exit, as in any that is sound
pub result_balanced : (document : List ℕ) (es : List Event) (d : ℕ) → sound 64 d es ≡ true → {r : Result ℕ Offender} {w : List ℕ} → Noted document es r w → (m : ℕ) → r ≡ Ok m →
    balanced (spliced w es) ≡ true
result_balanced document es d c {r} {w} n m q =
    sound_balanced 128 d (spliced w es) (nested d document es (spliced w es) c (noted_gives document es d c n m q))

-- the ways out of a good record of e events: the answer and the output in each
module _ (f : Form) (document : List ℕ) (es : List Event) (d : ℕ) (c : sound 64 d es ≡ true) {r : Result ℕ Offender} {w : List ℕ} (n : Noted document es r w) (out : List ℕ) where
  pub shape_broken : (k place : ℕ) → r ≡ Err (record { event = k }) → place ≡ place_in f d k → (a : Result ℕ Refusal) → a ≡ Err (record { number = 6; place = place }) →
      Answered f (settled f d (lists document es) (length out)) answer_of out a out
  shape_broken k place q p a ea = offended f d (lists document es) answer_of out a k place (noted_offends document es d c n k q) p ea

  module _ (m : ℕ) (q : r ≡ Ok m) (e : ℕ) (le : length es ≡ e) (few : e ≤ 2048) where
    long : length (spliced w es) ≡ e + m
    long = noted_long document es d c n m q ∙ ap (λ (k : ℕ). k + m) le

    pub output_short : length out < 4 + f.width * (e + m) → (a : Result ℕ Refusal) → a ≡ Err (record { number = 8; place = 0 }) →
        Answered f (settled f d (lists document es) (length out)) answer_of out a out
    output_short h a ea =
        too_short f d (lists document es) answer_of out a (spliced w es) (noted_gives document es d c n m q) (e + m) long (few_added document es e le few n m q) h ea

    pub resolved : 4 + f.width * (e + m) ≤ length out → {out₁ : List ℕ} → out₁ ≡ onto (section_in f (spliced w es)) out →
        Answered f (settled f d (lists document es) (length out)) answer_of out (Ok (e + m)) out₁
    resolved h o =
        section-written f d (lists document es) answer_of out (Ok (e + m)) (spliced w es) (noted_gives document es d c n m q) (e + m)
        long (few_added document es e le few n m q) h o (ap (λ (k : ℕ). Ok k) (sym long))

-- the check's two ways on
pub refused_by_check : (h : Handed) (s : List ℕ) (works : ℕ) (out : List ℕ) (r : Refusal) → Err r ≡ admitted h s works →
    Answered (form_of h) (outcome_of h s (length out) works) answer_of out (Err r) out
unfolding outcome_of
refused_by_check h s works out r q = record { answer = rw (← q); output = rw (← q) (sym (onto_none out)) }

pub good_record : (h : Handed) (s : List ℕ) (works d e : ℕ) (out : List ℕ) (f : Form) {r : Result ℕ Refusal} {out' : List ℕ} → accept d e ≡ admitted h s works → f ≡ form_of h →
    Answered f (settled f d (lists (document_in f s d) (events_in f s d e)) (length out)) answer_of out r out' → Answered (form_of h) (outcome_of h s (length out) works) answer_of out r out'
unfolding outcome_of
good_record h s works d e out f q g w = rw (← q) (rw g at w)
