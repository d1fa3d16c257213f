-- `mend_all` is safe and ends: by the bytes that are left. Assumes nothing.
use Rattle.std.proofs.Common.{◌≡◌, ◌-◌, length}
use Rattle.test_mender.proofs.mending.mend_all.Given as goal

abbrev pub invariant-loop-used : goal.invariant-loop-used
invariant-loop-used l = length l.journal ≡ length l.initial.journal

abbrev pub decreases-loop-used : goal.decreases-loop-used
decreases-loop-used l = length l.initial.journal - l.used
