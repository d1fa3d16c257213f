-- `put_numbers` meets its contract: 13, or a loop that puts each number where the one before it ends. Assumes nothing.
use mathlib.Core.Path.{◌≡◌}
use Prim.Native.Nat.{◌+◌, ◌≤◌}
use lib.ListN.{length, drop}
use lib.Seq.{sets}
use Rattle.bits.specs.Fields.{span}
use Rattle.rtcm2_rows.specs.Sizes.{sized_bytes}
use Rattle.rtcm2_rows.specs.Tables.{few}
use Rattle.rtcm2_rows.proofs.table.put_numbers.Given as goal

-- putting the numbers that are left from here on is putting all of them
abbrev pub invariant-loop-i : goal.invariant-loop-i
invariant-loop-i l = (l.i ≤ 12)
    × (length l.bytes ≡ length l.initial.bytes)
    × (span (few l.sizes) ≤ length l.initial.bytes)
    × (l.next + span (drop l.i (few l.sizes)) ≡ span (few l.sizes))
    × (sets l.initial.bytes 0 (sized_bytes (few l.sizes) l.numbers) ≡ sets l.bytes l.next (sized_bytes (drop l.i (few l.sizes)) (drop l.i l.numbers)))
