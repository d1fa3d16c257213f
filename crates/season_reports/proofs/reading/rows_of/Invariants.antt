-- `rows_of` meets its contract: by a loop, an entry a turn, of which one that is refused adds nothing. Assumes nothing.
use mathlib.Core.Path.{◌≡◌}
use mathlib.Core.List.{◌++◌, map}
use Prim.Native.Nat.{◌≤◌}
use lib.ListN.{length, take}
use Rattle.record_fields.specs.Coding.{Each}
use Rattle.season_reports.specs.Season.{entry_row}
use Rattle.season_reports.specs.Journals.{entries_after}
use Rattle.season_reports.specs.Tables.{SoundRow}
use Rattle.season_reports.proofs.JournalLaws.{left_of}
use Rattle.season_reports.proofs.reading.rows_of.Given as goal

-- the rows found, and those of the entries that are left
abbrev pub invariant-loop-i : goal.invariant-loop-i
invariant-loop-i l =
    (take l.found l.rows ++ left_of l.frame l.count l.i ≡ map entry_row (entries_after l.frame l.count 0))
    × ((l.found ≤ l.i) × ((l.i ≤ l.count) × ((length l.rows ≡ 18) × Each SoundRow (take l.found l.rows))))
