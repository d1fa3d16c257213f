-- `filled` meets its contract: two words after two, each tested and put in. Assumes nothing.
use Rattle.std.proofs.Common.{◌≡◌, ◌+◌, ◌-◌, ◌*◌, min}
use Rattle.stream.specs.Standing.{all_right, stands}
use Rattle.reader.specs.Cells.{held_bits}
use Rattle.reader.proofs.Gathering.{gathered}
use Rattle.reader.proofs.taking.filled.Given as goal

-- the data words before word 2 i are there, and a frame stands where those from there on are right
abbrev pub invariant-loop-i : goal.invariant-loop-i
invariant-loop-i l =
    (l.words ≡ gathered (min (2 * l.i) l.n) (held_bits l.cells l.end l.held))
    × (stands (held_bits l.cells l.end l.held) ≡ all_right (2 + l.n - (2 + 2 * l.i)) (2 + 2 * l.i) (held_bits l.cells l.end l.held))
