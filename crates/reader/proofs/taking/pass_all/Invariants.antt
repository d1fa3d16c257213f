-- `pass_all` meets its contract: two words after two, each tested. Assumes nothing.
use Rattle.std.proofs.Common.{◌≡◌, ◌-◌, ◌*◌}
use Rattle.stream.specs.Standing.{all_right}
use Rattle.reader.specs.Cells.{held_bits}
use Rattle.reader.proofs.taking.pass_all.Given as goal

-- the test of the words from word 2 i on is that of all
abbrev pub invariant-loop-i : goal.invariant-loop-i
invariant-loop-i l = all_right (l.count - 2 * l.i) (2 * l.i) (held_bits l.cells l.end l.held) ≡ all_right l.count 0 (held_bits l.cells l.end l.held)
