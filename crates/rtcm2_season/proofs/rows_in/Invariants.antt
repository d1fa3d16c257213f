-- `rows_in` meets its contract: by a loop that fills the array row by row. Assumes nothing.
use mathlib.Core.Path.{◌≡◌}
use Prim.Native.Nat.{◌-◌, ◌≤◌}
use lib.ListN.{length, take, drop, replicate}
use Rattle.rtcm2_rows.specs.Rows.{entries_from}
use Rattle.season_reports.specs.Rows.{blank_row}
use Rattle.rtcm2_season.specs.Rows.{report_row}
use Rattle.rtcm2_season.proofs.rows_in.Given as goal

-- the first i rows are read, those past them are blank
abbrev pub invariant-loop-i : goal.invariant-loop-i
invariant-loop-i l =
    (take l.i l.rows ≡ entries_from report_row l.i (drop 4 l.bytes)) × ((drop l.i l.rows ≡ replicate (512 - l.i) blank_row) × ((l.i ≤ l.used) × (length l.rows ≡ 512)))
