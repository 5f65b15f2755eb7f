-- A line with no tab is read at column 0 as it was before tabs went to stops: the statement of specs/ReadersBefore.antt. Its columns are its bytes (proofs/Before.antt
-- in scan), and so are those of what is left of it behind the indentation and behind a marker.
-- Assumes nothing.
use mathlib.Core.Path.{◌≡◌, refl, sym, ap, ◌∙◌}
use mathlib.Core.Bool.{Bool, true, false}
use mathlib.Core.List.{List}
use Prim.Native.Nat.{ℕ, ◌+◌, ◌≤◌}
use native.Mathlib.Omega.{arith}
use lib.ListN.{drop}
use lib.Dec.{eqb, leb}
use borrow.Author.Tests.{leb-true, eqb-false}
use Rattle.std.specs.Prelude.{Err, None, Option, Some, Result, Ok}
use Rattle.record.specs.Choice.{choose, and}
use Rattle.record.specs.Options.{option_on}
use Rattle.record.specs.declared.check.Refusal.{Refusal}
use Rattle.record.proofs.Bools.{and_right}
use Rattle.scan.specs.Run.{every, blank, blanks}
use Rattle.scan.specs.Columns.{reach}
use Rattle.scan.specs.Line.{line_of, reading, Checked}
use Rattle.tabs.specs.BytesBefore.{indentation_before, no_tab, whole}
use Rattle.scan.specs.declared.columns.Reach.{Reach}
use Rattle.tabs.proofs.BytesBefore.{without_tabs, checked_as_before}
use Rattle.scan.proofs.Taken.{columns_full, every_drop}
use Rattle.lines.specs.Spaces.{spaces_in, spaces_of}
use Rattle.lines.specs.Item.{padding, item_with, filled_start, start_after, start_from, start_at, start_in, start_of, marked}
use Rattle.lines.specs.Going.{cleared, blank_going, filled_going, going_in, going_of}
use Rattle.tabs.specs.ReadersBefore.{spaces_in_before, spaces_before, filled_before, after_before, from_before, start_in_before, start_before}
use Rattle.tabs.specs.ReadersBefore.{going_in_before, going_before, WithoutTabs}
use Rattle.lines.specs.declared.container.Kind.{Kind}
use Rattle.lines.specs.declared.container.Container.{Container}
use Rattle.lines.specs.declared.item.Marker.{Marker}
use Rattle.lines.specs.declared.going.Going.TheVariants.{Goes}
use Rattle.lines.proofs.Lawful.{padding_some}

-- alike, where it comes to that
pub choose_where : {A : Type 0} (b : Bool) (x x' y y' : A) → (b ≡ true → x ≡ x') → (b ≡ false → y ≡ y') → choose b x y ≡ choose b x' y'
unfolding choose
choose_where true x x' y y' f g = f refl
choose_where false x x' y y' f g = g refl

module _ (c : ℕ) (l : List ℕ) (h : every no_tab l ≡ true) where
  -- of spaces alone as many bytes are taken as columns, if these are there
  spaces_only : (n : ℕ) → n ≤ blanks l → reach n c l ≡ whole n
  spaces_only n k =
      let b = without_tabs c l h in
      let f = columns_full n c l (omega (arith, b.all)) in
      b.up_to n ∙ ap whole (sym (ap (λ (r : Reach). r.columns) (b.up_to n)) ∙ f)

  spaces_before_lem : (min max : ℕ) → spaces_in l c min max ≡ spaces_in_before l min max
  unfolding spaces_in spaces_in_before
  spaces_before_lem min max = rw ((without_tabs c l h).up_to max)

  -- behind a marker
  filled_before_lem : (kind : Kind) (n : ℕ) → filled_start kind (whole n) c l ≡ filled_before kind n (blanks l)
  unfolding filled_start filled_before
  filled_before_lem kind n =
      rw (without_tabs c l h).all
      (choose_where (eqb (blanks l) 0) _ _ _ _ (λ e. refl)
      (λ e. ap (item_with kind (whole n)) (spaces_only (padding (blanks l)) (padding_some (blanks l) (eqb-false _ _ e)).2)))

  after_before_lem : (z : Bool) (kind : Kind) (n : ℕ) → start_after z kind (whole n) c l ≡ after_before z kind n l
  unfolding start_after after_before
  after_before_lem z kind n = choose_where (blank l) _ _ _ _ (λ e. refl) (λ e. filled_before_lem kind n)

from_before_lem : (z : Bool) (n : ℕ) (m : Option Marker) (l : List ℕ) → every no_tab l ≡ true → start_from z 0 (whole n) m l ≡ from_before z n m l
unfolding start_from from_before
from_before_lem z n None l h = refl
from_before_lem z n (Some m) l h =
    after_before_lem (0 + (n + m.width)) (drop m.width l) (every_drop no_tab m.width l h) z m.kind (n + m.width)

start_before_lem : (l : List ℕ) (options : ℕ) (z : Bool) → every no_tab l ≡ true → start_in l options 0 z ≡ start_in_before l options z
unfolding start_in start_at start_in_before
start_before_lem l options z h =
    rw ((without_tabs 0 l h).indented options)
    (choose_where (option_on options 16) _ _ _ _
    (λ e. from_before_lem z (indentation_before options l) _ _ (every_drop no_tab (indentation_before options l) l h))
    (λ e. refl))

going_before_lem : (l : List ℕ) (held : Container) → every no_tab l ≡ true → going_in l 0 held ≡ going_in_before l held
unfolding going_in blank_going filled_going going_in_before
going_before_lem l held h =
    choose_where (blank l) _ _ _ _
    (λ e. choose_where held.blank _ _ _ _ (λ f. refl) (λ f. goes_with held _ _ ((without_tabs 0 l h).up_to held.size)))
    (λ e.
    rw (without_tabs 0 l h).all
    (choose_where (and (leb 1 (blanks l)) (leb held.size (blanks l))) _ _ _ _
    (λ f. goes_with (cleared held) _ _ (spaces_only 0 l h held.size (leb-true _ _ (and_right _ _ f))))
    (λ f. refl)))
  where
    goes_with : (to : Container) (r r' : Reach) → r ≡ r' → Goes r.bytes r.left to ≡ Goes r'.bytes r'.left to
    goes_with to r r' e = ap (λ (x : Reach). Goes x.bytes x.left to) e

-- a reader's answer after the same check, of what is found alike
read_alike : {A : Type 0} {c c' : Checked} {found found' : A} → c ≡ c' → found ≡ found' →
    ◌≡◌ {A = Result A Refusal} (reading c Err (Ok found)) (reading c' Err (Ok found'))
read_alike p q = cc

pub as_before : WithoutTabs
unfolding spaces_of spaces_before start_of start_before going_of going_before
as_before s options h =
    record {
      spaces = λ min max. read_alike (checked_as_before s options) (spaces_before_lem 0 (line_of s) h min max);
      start = λ z. read_alike (checked_as_before s options) (start_before_lem (line_of s) options z h);
      going = λ held. read_alike (checked_as_before s options) (going_before_lem (line_of s) held h);
    }
