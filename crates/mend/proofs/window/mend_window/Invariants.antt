-- `mend_window` is safe and ends: by the bytes that are left. Assumes nothing.
use Rattle.std.proofs.Common.{◌≡◌, ◌-◌, ◌≤◌, length}
use Rattle.mend.proofs.window.mend_window.Given as goal

abbrev pub invariant-loop-used : goal.invariant-loop-used
invariant-loop-used l = (l.used ≤ length l.window) × (length l.window ≡ length l.initial.window)

abbrev pub decreases-loop-used : goal.decreases-loop-used
decreases-loop-used l = length l.initial.window - l.used
