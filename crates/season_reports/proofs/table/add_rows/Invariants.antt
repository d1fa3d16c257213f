-- `add_rows` meets its contract: by a loop, a batch a turn. Assumes nothing.
use mathlib.Core.Path.{◌≡◌}
use Prim.Native.Nat.{◌-◌, ◌≤◌}
use lib.ListN.{drop}
use Rattle.season_reports.specs.Reports.{rows_in}
use Rattle.season_reports.specs.Tables.{with_rows, SoundTable}
use Rattle.season_reports.proofs.table.add_rows.Given as goal

abbrev pub invariant-loop-from : goal.invariant-loop-from
invariant-loop-from l =
    (with_rows l.initial.sum (rows_in l.report) ≡ with_rows l.sum (drop l.from (rows_in l.report))) × (SoundTable l.sum × (l.from ≤ l.report.used))

abbrev pub decreases-loop-from : goal.decreases-loop-from
decreases-loop-from l = l.report.used - l.from
