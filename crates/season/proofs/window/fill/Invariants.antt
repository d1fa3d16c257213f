-- `fill` is safe and ends: by the room that is left. Assumes nothing.
use Rattle.std.proofs.Common.{◌-◌, ◌≡◌, ◌≤◌, length}
use Rattle.season.proofs.window.fill.Given as goal

abbrev pub invariant-loop-held : goal.invariant-loop-held
invariant-loop-held l = (l.held ≤ length l.window) × (length l.window ≡ length l.initial.window)

abbrev pub decreases-loop-held : goal.decreases-loop-held
decreases-loop-held l = length l.initial.window - l.held
