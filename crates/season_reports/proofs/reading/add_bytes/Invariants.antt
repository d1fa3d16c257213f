-- `add_bytes` meets its contract: by a loop, a record a turn, until the bytes end or one is refused. Assumes nothing.
use Prim.Native.Nat.{◌-◌}
use lib.ListN.{length}
use Rattle.season_reports.proofs.BytesLaws.{ReadSoFar}
use Rattle.season_reports.proofs.reading.add_bytes.Given as goal

abbrev pub invariant-loop-used : goal.invariant-loop-used
invariant-loop-used l = ReadSoFar l.initial.sum l.bytes l.sum l.used

abbrev pub decreases-loop-used : goal.decreases-loop-used
decreases-loop-used l = length l.bytes - l.used
