-- `numbers_at` meets its contract: by a loop that reads each number where the one before it ends. Assumes nothing.
use mathlib.Core.Path.{◌≡◌}
use mathlib.Core.List.{◌++◌}
use Prim.Native.Nat.{◌+◌, ◌≤◌}
use lib.ListN.{length, take, drop}
use Rattle.bits.specs.Fields.{span}
use Rattle.rtcm2_rows.specs.Sizes.{sized_in}
use Rattle.rtcm2_rows.specs.Tables.{few}
use Rattle.rtcm2_rows.proofs.table.numbers_at.Given as goal

-- the numbers that are read, and those of the sizes that are left
abbrev pub invariant-loop-i : goal.invariant-loop-i
invariant-loop-i l = (l.i ≤ 12)
    × (length l.numbers ≡ 12)
    × (l.next + span (drop l.i (few l.sizes)) ≡ l.at + span (few l.sizes))
    × (sized_in (few l.sizes) (drop l.at l.bytes) ≡ take l.i l.numbers ++ sized_in (drop l.i (few l.sizes)) (drop l.next l.bytes))
