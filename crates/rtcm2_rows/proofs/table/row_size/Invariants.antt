-- `row_size` meets its contract: by a loop that adds size after size. Assumes nothing.
use mathlib.Core.Path.{◌≡◌}
use Prim.Native.Nat.{◌+◌, ◌*◌, ◌≤◌}
use lib.ListN.{drop}
use Rattle.bits.specs.Fields.{span}
use Rattle.rtcm2_rows.specs.Tables.{few}
use Rattle.rtcm2_rows.proofs.table.row_size.Given as goal

-- what is added, and the bytes of the sizes that are left
abbrev pub invariant-loop-i : goal.invariant-loop-i
invariant-loop-i l = (l.bytes + span (drop l.i (few l.sizes)) ≡ span (few l.sizes)) × ((l.i ≤ 12) × (l.bytes ≤ 4 * l.i))
