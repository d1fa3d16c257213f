-- `any_wrong` meets its contract: by a loop that has passed no wrong row. Assumes nothing.
use mathlib.Core.Path.{◌≡◌}
use Prim.Native.Nat.{ℕ, ◌≤◌, ◌<◌}
use lib.ListN.{take, drop, get_or}
use Rattle.frame.specs.Widths.{any_of}
use Rattle.season_reports.specs.Rows.{blank_row, wrong_sum}
use Rattle.season_reports.specs.Tables.{SoundRow}
use Rattle.season_reports.proofs.table.any_wrong.Given as goal

abbrev pub invariant-loop-i : goal.invariant-loop-i
invariant-loop-i l =
    (any_of wrong_sum (take l.used l.rows) ≡ any_of wrong_sum (drop l.i (take l.used l.rows)))
    × ((l.i ≤ l.used) × ((j : ℕ) → j < l.i → SoundRow (get_or l.rows j blank_row)))
