-- Reports: which are refused with 5, and what the calls on them answer in the order 5, 18, 19. Assumes nothing.
use Rattle.std.specs.Prelude.{Bool, ◌||◌, List, [], ◌∷◌, ◌++◌, map, ℕ, ◌-◌, ltb, leb, length, take, get_or, replicate}
use Rattle.answer.specs.Order.{Says, refuses, answers, Check, in_order}
use Rattle.frame.specs.Widths.{any_of}
use Rattle.season_reports.specs.Rows.{blank_row, wrong_sum, over_count}
use Rattle.season_reports.specs.Gathering.{keys_of, key_twice, gathered}
use Rattle.season_reports.specs.Season.{entry_row}
use Rattle.season_reports.specs.Journals.{contents_of}
use Rattle.season_reports.specs.declared.Row.{Row}
use Rattle.season_reports.specs.declared.Report.{Report}
use Rattle.season_reports.specs.declared.Adding.{Adding}
use Rattle.season_reports.specs.declared.Adding.TheVariants.{Done, Refused}
use Rattle.season_reports.specs.declared.Added.{Added}
use Rattle.season_reports.specs.declared.JournalReport.{JournalReport}
use Rattle.season_reports.specs.declared.RowRead.{RowRead}
use Rattle.season_reports.specs.declared.RowRead.TheVariants as row_read

-- ---- reports

-- the most rows of a report
abbrev pub most_rows : ℕ
most_rows = 512

-- the rows in use; those behind them are not looked at
abbrev pub rows_in : Report → List Row
rows_in r = take r.used r.rows

-- THE REPORT of so many rows: blank ones behind them
unfoldable pub report_with : List Row → Report
report_with rows = record { used = length rows; rows = rows ++ replicate (most_rows - length rows) blank_row }

-- REFUSAL 5: over 512 rows, one key in two rows, or a sum not from count times least to count times largest
unfoldable pub report_out : Report → Bool
report_out r = ltb most_rows r.used || key_twice (keys_of (rows_in r)) || any_of wrong_sum (rows_in r)

-- ---- the answers

-- 18: more keys than rows; 19: a count that would pass 4,294,967,295; both of all the rows that go into the sum
abbrev pub sum_order : List Row → List Check
sum_order rows = (ltb most_rows (length (gathered rows)), 18) ∷ (any_of over_count (gathered rows), 19) ∷ []

-- ADDING a report to another: 5, 18, 19; on a refusal the first is as it was
abbrev pub add_order : Report → Report → List Check
add_order a b = (report_out a, 5) ∷ (report_out b, 5) ∷ sum_order (rows_in a ++ rows_in b)

abbrev pub refused_add : Report → ℕ → Added
refused_add a n = record { answer = Refused n; report = a }

unfoldable pub added_by : Report → Report → Added
added_by a b = in_order (add_order a b) (refused_add a) (record { answer = Done; report = report_with (gathered (rows_in a ++ rows_in b)) })

-- THE ROWS OF A JOURNAL'S BYTES: each entry that is read, a row of its own
unfoldable pub journal_rows : List ℕ → List Row
journal_rows bs = map entry_row (contents_of bs).entries

-- ADDING a journal's bytes to a report: 5, 18, 19; on a refusal the report is as it was, and no byte is used
abbrev pub journal_order : Report → List ℕ → List Check
journal_order a bs = (report_out a, 5) ∷ sum_order (rows_in a ++ journal_rows bs)

unfoldable pub journal_added : Report → List ℕ → JournalReport
journal_added a bs =
    in_order (journal_order a bs) (λ n. record { answer = Refused n; report = a; used = 0 })
    (record { answer = Done; report = report_with (gathered (rows_in a ++ journal_rows bs)); used = (contents_of bs).used })

-- A ROW of a report: 5, 9
unfoldable pub row_numbered : Report → ℕ → RowRead
row_numbered r i = in_order ((report_out r, 5) ∷ (leb r.used i, 9) ∷ []) row_read.Refused (row_read.At (get_or r.rows i blank_row))

-- ---- in the table's terms

abbrev pub says_added : Added → Says Report
says_added a = by a.answer
  where
    by : Adding → Says Report
    by Done = answers a.report
    by (Refused n) = refuses n

abbrev pub says_journal : JournalReport → Says (Report × ℕ)
says_journal a = by a.answer
  where
    by : Adding → Says (Report × ℕ)
    by Done = answers (a.report, a.used)
    by (Refused n) = refuses n

abbrev pub says_row : RowRead → Says Row
says_row (row_read.At r) = answers r
says_row (row_read.Refused n) = refuses n
