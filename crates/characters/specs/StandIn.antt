-- How the code has a neighbour: as one character in any case. A line feed stands for an edge, which is whitespace as it is, and the zero byte for what is
-- malformed, which is other as it is (D3); neither is a marker. So nothing that is made of a neighbour tells them apart; `stand_opens` and `stand_closes` in
-- crates/runs/proofs/Firsts.antt say so of what a run can do. No rule speaks of it: contracts do.
-- Assumes nothing.
use Rattle.std.specs.Prelude.{ℕ}
use Rattle.characters.specs.Beside.{Neighbour, Edge, Character, Malformed}

abbrev pub stand_in : Neighbour → ℕ
stand_in Edge = 10
stand_in (Character c) = c
stand_in Malformed = 0
