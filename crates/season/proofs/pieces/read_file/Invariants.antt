-- `read_file` is safe: what is held is of the window. Assumes nothing.
use Rattle.std.proofs.Common.{◌≤◌, length}
use Rattle.season.proofs.pieces.read_file.Given as goal

abbrev pub invariant-loop : goal.invariant-loop
invariant-loop l = l.course.held ≤ length l.window
