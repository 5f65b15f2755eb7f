-- The laws of specs/Laws.antt for space-or-tab, list item start and continuation, from the definitions by their cases.
-- Assumes nothing.
use mathlib.Core.Path.{◌≡◌, refl, sym, ap, ◌∙◌}
use mathlib.Core.Bool.{Bool, true, false}
use mathlib.Core.Logic.{◌⊎◌, inl, inr, ⊎_elim}
use mathlib.Core.List.{List, [], ◌∷◌}
use Prim.Native.Nat.{ℕ, ◌+◌, ◌≤◌, ◌<◌}
use native.Mathlib.Omega.{arith}
use lib.ListN.{length, drop, length-drop}
use lib.Seq.{get_or-drop, drop-drop}
use lib.Dec.{eqb, leb}
use borrow.Author.Tests.{leb-true, eqb-true, eqb-false}
use Rattle.std.specs.Prelude.{Ok, Err, None, Option, Some, Result}
use Rattle.lines.specs.declared.item.Item.{Item}
use Rattle.lines.specs.declared.spaces.Taken.{Taken}
use Rattle.record.specs.Choice.{choose, and}
use Rattle.record.specs.Options.{option_on}
use Rattle.record.specs.declared.check.Refusal.{Refusal}
use Rattle.record.proofs.Bools.{clash}
use Rattle.record.proofs.Chosen.{chosen}
use Rattle.scan.specs.Run.{or, space_or_tab, digit, leading, first}
use Rattle.scan.specs.Columns.{columns, reach, indentation, ReachTo}
use Rattle.scan.specs.Line.{line_of, checked_line, reading, Checked}
use Rattle.lines.specs.Spaces.{spaces_in, spaces_of, takes}
use Rattle.lines.specs.Item.{bullet_mark, marker_of, container, padding, up_to_marker, filled_start, start_after, start_from, start_at, start_in, start_of, starts}
use Rattle.lines.specs.Going.{cleared, goes_to, blank_going, filled_going, going_in, going_of}
use Rattle.lines.specs.Laws.{LeftLaws, TakenLaws, ItemLaws, TooDeep, GoesLaws}
use Rattle.scan.specs.declared.columns.Reach.{Reach}
use Rattle.lines.specs.declared.container.Kind.{Kind}
use Rattle.lines.specs.declared.container.Container.{Container}
use Rattle.lines.specs.declared.item.Marker.{Marker}
use Rattle.lines.specs.declared.going.Going.TheVariants.{Goes, Stops}
use Rattle.scan.proofs.InColumns.{reach_counted, going_on}
use Rattle.scan.proofs.Taken.{columns_full, columns_first, indent_reach, indent_fits, reach_narrow, left_most}
use Rattle.lines.proofs.Marks.{Told, told, no_bullet, no_digits}

-- an answer that is no refusal is what is found on the line
pub found_in : {A : Type 0} (c : Checked) (found r : A) → ◌≡◌ {A = Result A Refusal} (Ok r) (reading c Err (Ok found)) → r ≡ found
unfolding reading
found_in (Ok n) found r q = cc
found_in (Err x) found r q = let z : ◌≡◌ {A = ℕ} 0 1 = cc in absurd (omega arith)

-- what a reach leaves
left_lawful : (max c : ℕ) (l : List ℕ) (r : Reach) → ReachTo max c l r → LeftLaws l r.bytes r.left
left_lawful max c l r t = record { within = t.within; left_of_a_tab = λ h. (t.tab_cut h).0; at_most_three = left_most max c l r t }

-- nothing is left
none_left : (l : List ℕ) (n left : ℕ) → n ≤ length l → left ≡ 0 → LeftLaws l n left
none_left l n left h e = record { within = h; left_of_a_tab = λ k. absurd (omega arith); at_most_three = omega arith }

-- of what is left behind some bytes of a line
left_behind : (l : List ℕ) (k n left : ℕ) → k ≤ length l → LeftLaws (drop k l) n left → LeftLaws l (k + n) left
left_behind l k n left h t =
    record {
      within = omega (arith, t.within, length-drop k l);
      left_of_a_tab = λ z. sym (get_or-drop k l n 0) ∙ t.left_of_a_tab z;
      at_most_three = t.at_most_three;
    }

left_at : (l : List ℕ) (m n j k : ℕ) → m ≡ n → j ≡ k → LeftLaws l n k → LeftLaws l m j
left_at l m n j k p q t = rw (p, q) t

-- space-or-tab
pub taken_not_few : (n left : ℕ) → takes n left ≡ None → ⊥
taken_not_few n left q = let z : ◌≡◌ {A = ℕ} 0 1 = cc in omega arith

pub same_taken : (m n j k : ℕ) → takes m j ≡ takes n k → (m ≡ n) × (j ≡ k)
same_taken m n j k q =
    let r : ◌≡◌ {A = Taken} (record { bytes = m; left = j }) (record { bytes = n; left = k }) = cc in
    (ap (λ (x : Taken). x.bytes) r, ap (λ (x : Taken). x.left) r)

taken_lawful : (l : List ℕ) (column min max n left : ℕ) → takes n left ≡ spaces_in l column min max → TakenLaws l column min max n left
unfolding spaces_in
taken_lawful l column min max n left q =
    let r : Reach = reach max column l in
    let t : ReachTo max column l r = reach_counted max column l in
    ⊎_elim
    (λ w.
    let e = same_taken _ _ _ _ w.1 in
    record {
      leaves = left_at l _ _ _ _ e.0 e.1 (left_lawful max column l r t);
      columns_taken = r.columns;
      at_least = leb-true _ _ w.0;
      at_most = t.at_most;
      rest = (going_on max column l).all ∙ ap (λ (k : ℕ). r.columns + columns (column + r.columns) (drop k l)) (sym e.0);
    })
    (λ w. absurd (taken_not_few n left w.1))
    (chosen _ _ _ _ q)

pub spaces_lawful : (s : List ℕ) (options column min max n left : ℕ) → Ok (takes n left) ≡ spaces_of s options column min max →
    TakenLaws (line_of s) column min max n left
unfolding spaces_of
spaces_lawful s options column min max n left q =
    taken_lawful (line_of s) column min max n left
    (found_in (checked_line s options column) _ _ q)

-- list item start
pub item_not : (taken left : ℕ) (held : Container) → starts taken left held ≡ None → ⊥
item_not taken left held q = let z : ◌≡◌ {A = ℕ} 0 1 = cc in omega arith

pub same_start : (m n j k : ℕ) (a b : Container) → starts m j a ≡ starts n k b → (m ≡ n) × (j ≡ k) × (a ≡ b)
same_start m n j k a b q =
    let r : ◌≡◌ {A = Item} (record { taken = m; left = j; container = a }) (record { taken = n; left = k; container = b }) = cc in
    (ap (λ (x : Item). x.taken) r, ap (λ (x : Item). x.left) r, ap (λ (x : Item). x.container) r)

-- the padding of a filled start: one to four, and no more than is there
padding_is : (n : ℕ) → padding n ≡ choose (leb n 4) n 1
unfolding padding
padding_is n = refl

pub padding_some : (n : ℕ) → (n ≡ 0 → ⊥) → (1 ≤ padding n) × (padding n ≤ 4) × (padding n ≤ n)
padding_some n h =
    ⊎_elim
    (λ w.
    let k : n ≤ 4 = leb-true _ _ w.0 in
    let e : padding n ≡ n = w.1 in
    (omega arith, omega arith, omega arith))
    (λ w.
    let e : padding n ≡ 1 = w.1 in
    (omega arith, omega arith, omega arith))
    (chosen _ _ _ _ (padding_is n))

module _ (l : List ℕ) (options column : ℕ) (z : Bool) (kind : Kind) (width : ℕ)
    (t : Told z (drop (indentation options column l).bytes l) width) (taken left : ℕ) (held : Container) where
  abbrev indent : Reach
  indent = indentation options column l

  abbrev after : List ℕ
  after = drop width (drop indent.bytes l)

  abbrev here : ℕ
  here = column + (indent.columns + width)

  room : indent.bytes + width ≤ length l
  room = omega (arith, t.fits, length-drop indent.bytes l, indent_fits options column l indent refl)

  narrow : indent.bytes ≤ indent.columns
  narrow = reach_narrow _ _ _ _ (indent_reach options column l).1

  -- what is told of an item whose size and flag are known
  blank_item : starts taken left held ≡ starts (indent.bytes + width) 0 (container kind (indent.columns + width + 1) true) →
      ItemLaws l options column taken left held
  blank_item q =
      let e = same_start _ _ _ _ _ _ q in
      let size : held.size ≡ indent.columns + width + 1 = ap (λ (x : Container). x.size) e.2 in
      let flagged : held.blank ≡ true = ap (λ (x : Container). x.blank) e.2 in
      record {
        leaves = none_left l taken left (omega (arith, room, e.0)) e.1;
        two = omega (arith, t.some);
        width = width;
        padding = 1;
        size = size;
        marker = (t.some, t.narrow);
        padded = (omega arith, omega arith);
        blank_start = λ b. (refl, e.1, e.0);
        filled_start_lem = λ b. absurd (clash flagged b);
        no_break = t.no_break;
      }

  filled_item : (r : Reach) → r ≡ reach (padding (columns here after)) here after → (columns here after ≡ 0 → ⊥) →
      starts taken left held ≡ starts (indent.bytes + width + r.bytes) r.left (container kind (indent.columns + width + r.columns) false) →
      ItemLaws l options column taken left held
  filled_item r k some q =
      let e = same_start _ _ _ _ _ _ q in
      let size : held.size ≡ indent.columns + width + r.columns = ap (λ (x : Container). x.size) e.2 in
      let flagged : held.blank ≡ false = ap (λ (x : Container). x.blank) e.2 in
      let p = padding_some (columns here after) some in
      let c : r.columns ≡ padding (columns here after) = rw k (columns_full (padding (columns here after)) here after p.2) in
      let n : ReachTo (padding (columns here after)) here after r = rw k (reach_counted (padding (columns here after)) here after) in
      let thin : r.bytes ≤ r.columns = reach_narrow _ _ _ _ n in
      record {
        leaves =
            left_at l _ _ _ _ e.0 e.1
            (left_behind l (indent.bytes + width) r.bytes r.left room
            (rw (← (drop-drop width indent.bytes l)) (left_lawful _ _ _ _ n)));
        two = omega (arith, t.some);
        width = width;
        padding = r.columns;
        size = size;
        marker = (t.some, t.narrow);
        padded = (omega (arith, p.0), omega (arith, p.1));
        blank_start = λ b. absurd (clash b flagged);
        filled_start_lem = λ b. omega (arith, e.0, narrow);
        no_break = t.no_break;
      }

  pub after_lawful : starts taken left held ≡ start_after z kind (up_to_marker indent width) here after → ItemLaws l options column taken left held
  unfolding start_after filled_start
  after_lawful q =
      ⊎_elim
      (λ w. ⊎_elim (λ v. absurd (item_not _ _ _ v.1)) (λ v. blank_item v.1) (chosen _ _ _ _ w.1))
      (λ w. ⊎_elim (λ v. absurd (item_not _ _ _ v.1)) (λ v. filled_item _ refl (eqb-false _ _ v.0) v.1) (chosen _ _ _ _ w.1))
      (chosen _ _ _ _ q)

from_lawful : (l : List ℕ) (options column : ℕ) (z : Bool) (m : Option Marker) → m ≡ marker_of z (drop (indentation options column l).bytes l) →
    (taken left : ℕ) (held : Container) →
    starts taken left held ≡ start_from z column (indentation options column l) m (drop (indentation options column l).bytes l) →
    ItemLaws l options column taken left held
unfolding start_from
from_lawful l options column z None e taken left held q = absurd (item_not taken left held q)
from_lawful l options column z (Some m) e taken left held q =
    after_lawful l options column z m.kind m.width (told z _ m.kind m.width e) taken left held q

pub start_lawful : (s : List ℕ) (options column : ℕ) (z : Bool) (taken left : ℕ) (held : Container) →
    Ok (starts taken left held) ≡ start_of s options column z → ItemLaws (line_of s) options column taken left held
unfolding start_of start_in start_at
start_lawful s options column z taken left held q =
    let p = found_in (checked_line s options column) _ _ q in
    ⊎_elim
    (λ w. from_lawful (line_of s) options column z _ refl taken left held w.1)
    (λ w. absurd (item_not taken left held w.1))
    (chosen _ _ _ _ p)

-- a space or a tab starts no marker
module _ (b : ℕ) (e : space_or_tab b ≡ true) where
  one_of : (b ≡ 32) ⊎ (b ≡ 9)
  unfolding space_or_tab or
  one_of = go (eqb b 32) refl e
    where
      go : (x : Bool) → eqb b 32 ≡ x → or x (eqb b 9) ≡ true → (b ≡ 32) ⊎ (b ≡ 9)
      go true q f = inl (eqb-true _ _ q)
      go false q f = inr (eqb-true _ _ f)

  blank_no_bullet : bullet_mark b ≡ false
  unfolding bullet_mark or
  blank_no_bullet = ⊎_elim (λ q. rw q) (λ q. rw q) one_of

  blank_no_digit : digit b ≡ false
  unfolding digit and
  blank_no_digit = ⊎_elim (λ q. rw q) (λ q. rw q) one_of

no_run : (kind : ℕ → Bool) (l : List ℕ) → kind (first l) ≡ false → leading kind l < 1
unfolding leading choose
no_run kind [] e = omega arith
no_run kind (b ∷ l) e = rw e (omega arith)

pub blank_unmarked : (z : Bool) (l : List ℕ) → space_or_tab (first l) ≡ true → None ≡ marker_of z l
blank_unmarked z l e =
    no_bullet l z (first l) refl (blank_no_bullet (first l) e) None (no_digits l (leading digit l) refl z (no_run digit l (blank_no_digit (first l) e)))

-- a choice between two of the same
same_both : {A : Type 0} (b : Bool) (x y : A) → x ≡ y → choose b x y ≡ y
unfolding choose
same_both true x y e = e
same_both false x y e = refl

unmarked_starts : (z : Bool) (column : ℕ) (indent : Reach) (l : List ℕ) → None ≡ marker_of z l → start_at z column indent l ≡ None
unfolding start_at start_from
unmarked_starts z column indent l e = rw (← e)

-- behind three columns of more the next byte is a space or a tab
more_behind : (column : ℕ) (l : List ℕ) → 3 < columns column l → space_or_tab (first (drop (reach 3 column l).bytes l)) ≡ true
more_behind column l h =
    let f = columns_full 3 column l (omega arith) in
    columns_first (column + (reach 3 column l).columns) (drop (reach 3 column l).bytes l) (omega (arith, (going_on 3 column l).all))

three_taken : (options column : ℕ) (l : List ℕ) → option_on options 32 ≡ true → indentation options column l ≡ reach 3 column l
unfolding indentation choose
three_taken options column l o = rw o

pub too_deep : TooDeep
unfolding start_in
too_deep l options column z o h =
    rw (three_taken options column l o)
    (same_both (option_on options 16) _ _ (unmarked_starts z column _ _ (blank_unmarked z _ (more_behind column l h))))

-- continuation
pub goes_not : (taken left : ℕ) (a b : Container) → Goes taken left a ≡ Stops b → ⊥
goes_not taken left a b q = let z : ◌≡◌ {A = ℕ} 0 1 = cc in omega arith

pub same_goes : (m n j k : ℕ) (a b : Container) → Goes m j a ≡ Goes n k b → (m ≡ n) × (j ≡ k) × (a ≡ b)
same_goes m n j k a b q = (cc, cc, cc)

-- up to the size, with a container whose flag is clear
module _ (l : List ℕ) (column : ℕ) (held : Container) (taken left : ℕ) (held' : Container) where
  goes_to_lem : (to : Container) → to.size ≡ held.size → to.kind ≡ held.kind → to.blank ≡ false → Goes taken left held' ≡ goes_to l column to →
      GoesLaws l held taken left held'
  goes_to_lem to s k f q =
      let e = same_goes _ _ _ _ _ _ q in
      let r : Reach = reach to.size column l in
      let t : ReachTo to.size column l r = reach_counted to.size column l in
      record {
        leaves = left_at l _ _ _ _ e.0 e.1 (left_lawful _ _ _ _ t);
        at_most = omega (arith, e.0, reach_narrow _ _ _ _ t, t.at_most);
        same_size = ap (λ (x : Container). x.size) e.2 ∙ s;
        same_kind = ap (λ (x : Container). x.kind) e.2 ∙ k;
        no_flag = ap (λ (x : Container). x.blank) e.2 ∙ f;
      }

  goes_lawful : Goes taken left held' ≡ going_in l column held → GoesLaws l held taken left held'
  unfolding going_in blank_going filled_going
  goes_lawful q =
      ⊎_elim
      (λ w. ⊎_elim (λ v. absurd (goes_not _ _ _ _ v.1)) (λ v. goes_to_lem held refl refl v.0 v.1) (chosen _ _ _ _ w.1))
      (λ w. ⊎_elim (λ v. goes_to_lem (cleared held) refl refl refl v.1) (λ v. absurd (goes_not _ _ _ _ v.1)) (chosen _ _ _ _ w.1))
      (chosen _ _ _ _ q)

pub going_lawful : (s : List ℕ) (options column : ℕ) (held : Container) (taken left : ℕ) (held' : Container) →
    Ok (Goes taken left held') ≡ going_of s options column held → GoesLaws (line_of s) held taken left held'
unfolding going_of
going_lawful s options column held taken left held' q =
    goes_lawful (line_of s) column held taken left held'
    (found_in (checked_line s options column) _ _ q)
