-- `put_records` meets its contract: a record a turn. Assumes nothing.
use mathlib.Core.Path.{◌≡◌}
use mathlib.Core.List.{◌++◌}
use Prim.Native.Nat.{◌*◌, ◌≤◌}
use lib.ListN.{length, take, drop}
use Rattle.rtcm2.specs.Beacon.{records_of}
use Rattle.rtcm2.proofs.beacon.put_records.Given as goal

abbrev pub invariant-loop-i : goal.invariant-loop-i
invariant-loop-i l =
    (l.i ≤ l.number) × ((l.at ≡ length (records_of (take l.i l.cut))) × ((l.frames ≡ records_of (take l.i l.cut) ++ drop l.at l.initial.frames) × (l.at ≤ 102 * l.i)))
