-- `records_size` meets its contract: a record's length a turn. Assumes nothing.
use mathlib.Core.Path.{◌≡◌}
use Prim.Native.Nat.{◌*◌, ◌≤◌}
use lib.ListN.{length, take}
use Rattle.rtcm2.specs.Beacon.{records_of}
use Rattle.rtcm2.proofs.beacon.records_size.Given as goal

abbrev pub invariant-loop-i : goal.invariant-loop-i
invariant-loop-i l = (l.i ≤ l.number) × ((l.size ≡ length (records_of (take l.i l.cut))) × (l.size ≤ 102 * l.i))
