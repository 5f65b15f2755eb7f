-- A line that starts four columns further on is answered alike: specs/Laws.antt, `EveryFour`.
-- Assumes nothing.
use mathlib.Core.Path.{◌≡◌, refl}
use mathlib.Core.Bool.{Bool}
use mathlib.Core.List.{List}
use Prim.Native.Nat.{ℕ, ◌+◌}
use native.Mathlib.Omega.{arith}
use lib.ListN.{drop}
use Rattle.std.specs.Prelude.{None, Option, Some}
use Rattle.scan.specs.Columns.{columns, indentation}
use Rattle.scan.specs.declared.columns.Reach.{Reach}
use Rattle.lines.specs.Spaces.{spaces_in}
use Rattle.lines.specs.Item.{marker_of, padding, up_to_marker, filled_start, start_after, start_from, start_at, start_in}
use Rattle.lines.specs.Going.{blank_going, filled_going, going_in}
use Rattle.lines.specs.Laws.{EveryFour}
use Rattle.lines.specs.declared.container.Kind.{Kind}
use Rattle.lines.specs.declared.container.Container.{Container}
use Rattle.lines.specs.declared.item.Marker.{Marker}
use Rattle.scan.proofs.InColumns.{every_four}
use Rattle.scan.proofs.Taken.{indent_four}

filled_four : (kind : Kind) (before : Reach) (c : ℕ) (rest : List ℕ) → filled_start kind before (c + 4) rest ≡ filled_start kind before c rest
unfolding filled_start
filled_four kind before c rest = rw ((every_four 0 c rest).1, (every_four (padding (columns c rest)) c rest).0)

after_four : (z : Bool) (kind : Kind) (before : Reach) (c : ℕ) (rest : List ℕ) → start_after z kind before (c + 4) rest ≡ start_after z kind before c rest
unfolding start_after
after_four z kind before c rest = rw (filled_four kind before c rest)

from_four : (z : Bool) (column : ℕ) (indent : Reach) (m : Option Marker) (l : List ℕ) → start_from z (column + 4) indent m l ≡ start_from z column indent m l
unfolding start_from
from_four z column indent None l = refl
from_four z column indent (Some m) l =
    let e : column + 4 + (indent.columns + m.width) ≡ column + (indent.columns + m.width) + 4 = omega arith in
    rw e (after_four z m.kind (up_to_marker indent m.width) (column + (indent.columns + m.width)) (drop m.width l))

start_four : (l : List ℕ) (options column : ℕ) (z : Bool) → start_in l options (column + 4) z ≡ start_in l options column z
unfolding start_in start_at
start_four l options column z =
    let i : Reach = indentation options column l in
    rw (indent_four options column l, from_four z column i (marker_of z (drop i.bytes l)) (drop i.bytes l))

spaces_four : (l : List ℕ) (column min max : ℕ) → spaces_in l (column + 4) min max ≡ spaces_in l column min max
unfolding spaces_in
spaces_four l column min max = rw (every_four max column l).0

going_four : (l : List ℕ) (column : ℕ) (held : Container) → going_in l (column + 4) held ≡ going_in l column held
unfolding going_in blank_going filled_going
going_four l column held = rw ((every_four held.size column l).0, (every_four 0 column l).1)

pub every_four_alike : EveryFour
every_four_alike l column =
    record { spaces = spaces_four l column; start = λ options z. start_four l options column z; going = going_four l column }
