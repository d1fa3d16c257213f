-- `move_input` is safe: what is held is of the window. Assumes nothing.
use Rattle.std.proofs.Common.{◌≡◌, ◌≤◌, length}
use Rattle.move_journal.proofs.move_input.Given as goal

abbrev pub invariant-loop : goal.invariant-loop
invariant-loop l = (l.held ≤ length l.window) × (length l.window ≡ length l.initial.window)
