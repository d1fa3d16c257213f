-- `run` meets its contract: by a loop over the bytes; the run from the start is what was used and the run from here. Assumes nothing.
use Rattle.std.proofs.Common.{◌≡◌, ◌-◌, ◌≤◌, length, drop}
use Rattle.reader.specs.Reading.{spent, run_to}
use Rattle.reader.proofs.Accepted.{Accepted}
use Rattle.reader.proofs.advance.run.Given as goal

-- the run from the start is what was used, and the run from here
abbrev pub invariant-loop-used : goal.invariant-loop-used
invariant-loop-used l =
    (length l.cells ≡ 40) × Accepted l.c × (l.used ≤ length l.bytes) × (l.passed ≤ l.used)
    × (run_to l.initial.cells l.initial.c l.bytes ≡ spent l.used l.passed (run_to l.cells l.c (drop l.used l.bytes)))

abbrev pub decreases-loop-used : goal.decreases-loop-used
decreases-loop-used l = length l.bytes - l.used
