-- `place_of` meets its contract: by a loop that has passed no such code. Assumes nothing.
use mathlib.Core.Path.{◌≡◌}
use mathlib.Core.Bool.{false}
use Prim.Native.Nat.{◌≤◌}
use lib.Dec.{eqb}
use lib.ListN.{take}
use Rattle.frame.specs.Widths.{any_of}
use Rattle.season_reports.proofs.table.place_of.Given as goal

abbrev pub invariant-loop-i : goal.invariant-loop-i
invariant-loop-i l = (any_of (eqb l.code) (take l.i (take l.used l.codes)) ≡ false) × (l.i ≤ l.used)
