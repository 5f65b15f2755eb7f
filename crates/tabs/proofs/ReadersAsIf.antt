-- Each reader answers of a line what the one of before answers of the line with its tabs replaced: the statement of specs/ReadersAsIf.antt. What is left of the one
-- line behind the indentation, and behind a marker, is on the other the same with its tabs replaced (proofs/Replaced.antt).
-- Assumes nothing.
use mathlib.Core.Path.{◌≡◌, refl, sym, ap, ◌∙◌}
use mathlib.Core.Bool.{Bool, true, false}
use mathlib.Core.List.{List}
use Prim.Native.Nat.{ℕ, ◌+◌, ◌≤◌, ◌<◌}
use native.Mathlib.Nat.{add-zero}
use native.Mathlib.Omega.{arith}
use lib.ListN.{length, get_or, drop, length-drop}
use lib.Seq.{drop-drop, get_or-drop}
use lib.Dec.{eqb, leb}
use borrow.Author.Tests.{leb-true, eqb-true, eqb-false}
use Rattle.std.specs.Prelude.{None, Option, Some}
use Rattle.lines.specs.declared.item.Item.{Item}
use Rattle.lines.specs.declared.spaces.Taken.{Taken}
use Rattle.record.specs.Choice.{choose, and}
use Rattle.record.specs.Options.{option_on}
use Rattle.record.proofs.Bools.{and_right}
use Rattle.scan.specs.Run.{or, space_or_tab, first, blank}
use Rattle.scan.specs.Columns.{columns, reach, indentation}
use Rattle.tabs.specs.Replaced.{replaced, up_to, CameTo}
use Rattle.scan.specs.declared.columns.Reach.{Reach}
use Rattle.scan.proofs.Taken.{columns_full, indent_fits}
use Rattle.tabs.proofs.Replaced.{columns_replaced, reach_replaced, came_to, blank_replaced, up_to_plus, drop_replaced, came_behind}
use Rattle.tabs.proofs.Replaced.{came_at, inside_tab, indent_replaced, indent_came}
use Rattle.lines.specs.Spaces.{spaces_in, takes, Spaces}
use Rattle.lines.specs.Item.{marker_of, container, padding, up_to_marker, filled_start, start_after, start_from, start_at, start_in, marked, starts, Start}
use Rattle.lines.specs.Going.{cleared, blank_going, filled_going, going_in}
use Rattle.tabs.specs.ReadersBefore.{spaces_in_before, filled_before, after_before, from_before, start_in_before, going_in_before}
use Rattle.tabs.specs.ReadersAsIf.{TabsAsSpaces}
use Rattle.lines.specs.declared.container.Kind.{Kind}
use Rattle.lines.specs.declared.container.Container.{Container}
use Rattle.lines.specs.declared.item.Marker.{Marker}
use Rattle.lines.specs.declared.going.Going.{Going}
use Rattle.lines.specs.declared.going.Going.TheVariants.{Goes, Stops}
use Rattle.lines.proofs.Marks.{told}
use Rattle.tabs.proofs.MarksAsIf.{marker_replaced, marker_columns}
use Rattle.lines.proofs.Lawful.{taken_not_few, same_taken, item_not, same_start, goes_not, same_goes, padding_some, blank_unmarked}

-- of a choice on both sides
both_choose : {A : Type 0} (R : A → A → Type 0) (z : Bool) (a a' b b' : A) → (z ≡ true → R a b) → (z ≡ false → R a' b') →
    R (choose z a a') (choose z b b')
unfolding choose
both_choose R true a a' b b' f g = f refl
both_choose R false a a' b b' f g = g refl

module _ (c : ℕ) (l : List ℕ) where
  abbrev line : List ℕ
  line = replaced c l

  -- an answer on the line, and the one of before on the line with its tabs replaced: of each reader
  record SameSpaces (a b : Option Taken) : Type 0 where
    few : a ≡ None → b ≡ None
    taken : (n left : ℕ) → a ≡ takes n left → (k : ℕ) × CameTo c l n left k × (b ≡ takes k 0)

  record SameStart (a b : Option Item) : Type 0 where
    no_item_lem : a ≡ None → b ≡ None
    item : (n left : ℕ) (held : Container) → a ≡ starts n left held → (k : ℕ) × CameTo c l n left k × (b ≡ starts k 0 held)

  record SameGoing (a b : Going) : Type 0 where
    stops : (held : Container) → a ≡ Stops held → b ≡ Stops held
    goes : (held : Container) (n left : ℕ) → a ≡ Goes n left held → (k : ℕ) × CameTo c l n left k × (b ≡ Goes k 0 held)

  -- nothing is found on both, or the same as far as that came
  both_few : SameSpaces None None
  both_few = record { few = λ e. e; taken = λ n left e. absurd (taken_not_few n left (sym e)) }

  both_taken : (n left k : ℕ) → CameTo c l n left k → SameSpaces (takes n left) (takes k 0)
  both_taken n left k t =
      record {
        few = λ e. absurd (taken_not_few n left e);
        taken = λ n' left' e. let q = same_taken _ _ _ _ e in (k, came_at c l q.0 q.1 refl t, refl);
      }

  no_items : SameStart None None
  no_items = record { no_item_lem = λ e. e; item = λ n left held e. absurd (item_not n left held (sym e)) }

  both_items : (n left k : ℕ) (held held' : Container) → CameTo c l n left k → held ≡ held' → SameStart (starts n left held) (starts k 0 held')
  both_items n left k held held' t h =
      record {
        no_item_lem = λ e. absurd (item_not n left held e);
        item = λ n' left' held'' e. let q = same_start _ _ _ _ _ _ e in (k, came_at c l q.0 q.1 refl t, ap (starts k 0) (sym h ∙ q.2));
      }

  both_stop : (held : Container) → SameGoing (Stops held) (Stops held)
  both_stop held = record { stops = λ held' e. e; goes = λ held' n left e. absurd (goes_not n left held' held (sym e)) }

  both_go : (n left k : ℕ) (held : Container) → CameTo c l n left k → SameGoing (Goes n left held) (Goes k 0 held)
  both_go n left k held t =
      record {
        stops = λ held' e. absurd (goes_not n left held held' e);
        goes = λ held' n' left' e. let q = same_goes _ _ _ _ _ _ e in (k, came_at c l q.0 q.1 refl t, ap (Goes k 0) q.2);
      }

  -- space-or-tab
  spaces_as_if : (min max : ℕ) → SameSpaces (spaces_in l c min max) (spaces_in_before line min max)
  unfolding spaces_in spaces_in_before
  spaces_as_if min max =
      rw (← (reach_replaced max c l))
      (both_choose SameSpaces (leb min (reach max c l).columns) _ _ _ _ (λ e. both_taken _ _ _ (came_to max c l)) (λ e. both_few))

  -- continuation
  goes_as_if : (size : ℕ) (to : Container) (k : ℕ) → k ≡ (reach size c l).columns →
      SameGoing (Goes (reach size c l).bytes (reach size c l).left to) (Goes k 0 to)
  goes_as_if size to k e = rw e (both_go _ _ _ to (came_to size c l))

  going_as_if : (held : Container) → SameGoing (going_in l c held) (going_in_before line held)
  unfolding going_in blank_going filled_going going_in_before
  going_as_if held =
      rw (blank_replaced c l, ← (columns_replaced c l))
      (both_choose SameGoing (blank l) _ _ _ _
      (λ e.
      both_choose SameGoing held.blank _ _ _ _ (λ f. both_stop held)
      (λ f. goes_as_if held.size held _ (sym (reach_replaced held.size c l))))
      (λ e.
      both_choose SameGoing (and (leb 1 (columns c l)) (leb held.size (columns c l))) _ _ _ _
      (λ f. goes_as_if held.size (cleared held) _ (sym (columns_full held.size c l (leb-true _ _ (and_right _ _ f)))))
      (λ f. both_stop (cleared held))))

  -- list item start: behind n bytes up to a marker's end, of k columns, no tab of which is cut
  module _ (n k : ℕ) (h : n ≤ length l) (e : k ≡ up_to c l n) where
    came_whole : CameTo c l n 0 k
    came_whole = record { within = h; whole = λ z. e; a_tab = λ z. absurd (omega arith); parted = λ z. absurd (omega arith) }

    came_further : (m left j : ℕ) → CameTo (c + k) (drop n l) m left j → CameTo c l (n + m) left (k + j)
    came_further m left j t = rw e (came_behind c l n m left j h (rw e at t))

    filled_as_if : (kind : Kind) →
        SameStart (filled_start kind (record { bytes = n; columns = k; left = 0 }) (c + k) (drop n l)) (filled_before kind k (columns (c + k) (drop n l)))
    unfolding filled_start filled_before
    filled_as_if kind =
        both_choose SameStart (eqb some 0) _ _ _ _ (λ z. no_items)
        (λ z.
        let f : r.columns ≡ padding some = columns_full (padding some) (c + k) (drop n l) (padding_some some (eqb-false _ _ z)).2 in
        both_items _ _ _ _ _
        (came_at c l refl refl (ap (λ (j : ℕ). k + j) f) (came_further _ _ _ (came_to (padding some) (c + k) (drop n l))))
        (ap (λ (j : ℕ). container kind (k + j) false) f))
      where
        some : ℕ
        some = columns (c + k) (drop n l)

        r : Reach
        r = reach (padding some) (c + k) (drop n l)

    after_as_if : (z : Bool) (kind : Kind) →
        SameStart (start_after z kind (record { bytes = n; columns = k; left = 0 }) (c + k) (drop n l)) (after_before z kind k (replaced (c + k) (drop n l)))
    unfolding start_after after_before
    after_as_if z kind =
        rw (blank_replaced (c + k) (drop n l), ← (columns_replaced (c + k) (drop n l)))
        (both_choose SameStart (blank (drop n l)) _ _ _ _
        (λ b. both_choose SameStart z _ _ _ _ (λ y. no_items) (λ y. both_items _ _ _ _ _ came_whole refl))
        (λ b. filled_as_if kind))

  -- behind the indentation
  module _ (options : ℕ) (z : Bool) where
    abbrev indent : Reach
    indent = indentation options c l

    abbrev rest : List ℕ
    rest = drop indent.bytes l

    -- it cuts a tab: neither what is left of the tab nor a space is a marker
    cut_unmarked : 0 < indent.left → None ≡ marker_of z rest
    unfolding space_or_tab or
    cut_unmarked h =
        let at : first rest ≡ get_or l indent.bytes 0 = get_or-drop indent.bytes l 0 0 ∙ ap (λ (j : ℕ). get_or l j 0) (add-zero indent.bytes) in
        let e : first rest ≡ 9 = at ∙ ((indent_came options c l).a_tab h).1 in
        blank_unmarked z rest (rw e)

    cut_unmarked_line : 0 < indent.left → None ≡ marker_of z (drop indent.columns line)
    unfolding space_or_tab or
    cut_unmarked_line h =
        let e = inside_tab c l indent.bytes indent.left indent.columns (indent_came options c l) h in
        blank_unmarked z (drop indent.columns line) (rw e)

    -- it cuts none: what follows is on the other line the same with its tabs replaced
    module _ (e : indent.left ≡ 0) where
      indent_whole : indent.columns ≡ up_to c l indent.bytes
      indent_whole = (indent_came options c l).whole e

      rest_replaced : drop indent.columns line ≡ replaced (c + indent.columns) rest
      rest_replaced = rw indent_whole (drop_replaced c l indent.bytes)

      module _ (kind : Kind) (width : ℕ) (m : marked kind width ≡ marker_of z rest) where
        room : indent.bytes + width ≤ length l
        room = omega (arith, (told z rest kind width m).fits, length-drop indent.bytes l, indent_fits options c l indent refl)

        marker_whole : indent.columns + width ≡ up_to c l (indent.bytes + width)
        marker_whole =
            omega (arith, indent_whole, up_to_plus c l indent.bytes width, marker_columns z (c + up_to c l indent.bytes) rest kind width m)

        behind_replaced : drop width (replaced (c + indent.columns) rest) ≡ replaced (c + (indent.columns + width)) (drop width rest)
        behind_replaced =
            let w = marker_columns z (c + indent.columns) rest kind width m in
            let at : c + indent.columns + up_to (c + indent.columns) rest width ≡ c + (indent.columns + width) = omega arith in
            ap (λ (j : ℕ). drop j (replaced (c + indent.columns) rest)) (sym w)
            ∙ drop_replaced (c + indent.columns) rest width
            ∙ ap (λ (j : ℕ). replaced j (drop width rest)) at

        marker_as_if : SameStart (start_after z kind (up_to_marker indent width) (c + (indent.columns + width)) (drop width rest))
            (after_before z kind (indent.columns + width) (drop width (replaced (c + indent.columns) rest)))
        marker_as_if =
            rw (behind_replaced, drop-drop width indent.bytes l)
            (after_as_if (indent.bytes + width) (indent.columns + width) room marker_whole z kind)

      from_as_if : (m : Option Marker) → m ≡ marker_of z rest →
          SameStart (start_from z c indent m rest) (from_before z indent.columns m (replaced (c + indent.columns) rest))
      unfolding start_from from_before
      from_as_if None q = no_items
      from_as_if (Some m) q = marker_as_if m.kind m.width q

    at_as_if : SameStart (start_at z c indent rest)
        (from_before z indent.columns (marker_of z (drop indent.columns line)) (drop indent.columns line))
    unfolding start_at start_from from_before
    at_as_if = go (eqb indent.left 0) refl
      where
        go : (y : Bool) → eqb indent.left 0 ≡ y →
            SameStart (start_at z c indent rest) (from_before z indent.columns (marker_of z (drop indent.columns line)) (drop indent.columns line))
        go true y =
            let e : indent.left ≡ 0 = eqb-true _ _ y in
            rw (rest_replaced e, marker_replaced (c + indent.columns) rest z) (from_as_if e (marker_of z rest) refl)
        go false y =
            let n = eqb-false indent.left 0 y in
            let h : 0 < indent.left = omega arith in
            rw (← (cut_unmarked h), ← (cut_unmarked_line h)) no_items

    start_as_if : SameStart (start_in l options c z) (start_in_before line options z)
    unfolding start_in start_in_before
    start_as_if =
        rw (← (indent_replaced options c l)) (both_choose SameStart (option_on options 16) _ _ _ _ (λ y. at_as_if) (λ y. no_items))

pub tabs_as_spaces : TabsAsSpaces
tabs_as_spaces c l =
    record {
      few = λ min max. (spaces_as_if c l min max).few;
      taken = λ min max. (spaces_as_if c l min max).taken;
      no_item_lem = λ options z. (start_as_if c l options z).no_item_lem;
      item = λ options z. (start_as_if c l options z).item;
      stops = λ held. (going_as_if c l held).stops;
      goes = λ held held' n left. (going_as_if c l held).goes held' n left;
    }
