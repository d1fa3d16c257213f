-- `is_twice` meets its contract: by a loop that has passed no code that stands before it. Assumes nothing.
use mathlib.Core.Path.{◌≡◌}
use mathlib.Core.Bool.{false}
use Prim.Native.Nat.{◌≤◌}
use lib.Dec.{eqb}
use lib.ListN.{take}
use Rattle.season_reports.specs.Gathering.{any_twice}
use Rattle.season_reports.proofs.table.is_twice.Given as goal

abbrev pub invariant-loop-i : goal.invariant-loop-i
invariant-loop-i l = (any_twice eqb (take l.i (take l.used l.codes)) ≡ false) × (l.i ≤ l.used)
