-- The calls on reports of a season: what each says of the bytes that hold one. Assumes nothing.
use Rattle.std.specs.Prelude.{cond, not, List, [], ◌∷◌, ◌++◌, ℕ, ltb, leb, length}
use Rattle.answer.specs.Order.{Says, refuses, answers, Check}
use Rattle.season_reports.specs.Reports.{report_with, report_out, journal_order, journal_added, add_order, added_by, row_numbered, says_row}
use Rattle.season_reports.specs.declared.Row.{Row}
use Rattle.season_reports.specs.declared.Report.{Report}
use Rattle.season_reports.specs.declared.Adding.{Adding}
use Rattle.season_reports.specs.declared.Adding.TheVariants.{Done, Refused}
use Rattle.season_reports.specs.declared.Added.{Added}
use Rattle.season_reports.specs.declared.JournalReport.{JournalReport}
use Rattle.rtcm2_rows.specs.Rows.{put_order}
use Rattle.rtcm2_season.specs.Rows.{report_row}
use Rattle.rtcm2_season.specs.Reports.{report_size, holds_report, report_in}
use Rattle.rtcm2.specs.Answer.{and_then}

-- REFUSAL 5: bytes that hold no report
abbrev pub report_held : List ℕ → Says Report
report_held bs = cond (holds_report bs) (answers (report_in bs)) (refuses 5)

-- what adding left, or its refusal
abbrev pub left_by : {A : Type 0} → Adding → A → Says A
left_by Done after = answers after
left_by (Refused n) after = refuses n

-- adding to the report that is held: 5, then what adding refuses
abbrev pub adding_by : {A : Type 0} → (A → Adding) → (Report → A) → List ℕ → Says A
adding_by answer call bs = and_then (report_held bs) (λ r. left_by (answer (call r)) (call r))

-- START: 13
unfoldable pub season_started : List ℕ → Says Report
season_started report = cond (ltb (length report) report_size) (refuses 13) (answers (report_with []))

-- A JOURNAL'S BYTES added: 5, 18, 19
unfoldable pub journal_said : List ℕ → List ℕ → Says JournalReport
journal_said report bytes = adding_by (λ (j : JournalReport). j.answer) (λ r. journal_added r bytes) report

-- ANOTHER REPORT added: 5, 18, 19
unfoldable pub add_said : List ℕ → List ℕ → Says Added
add_said first second = and_then (report_held first) (λ a. adding_by (λ (x : Added). x.answer) (added_by a) second)

-- A ROW: 5, 9
unfoldable pub row_said : List ℕ → ℕ → Says Row
row_said report index = and_then (report_held report) (λ r. says_row (row_numbered r index))

-- ---- THE ORDERS, as include/rtcm2.h gives them: first 5 for bytes that hold no report, then the package's own

-- START: 13
abbrev pub season_start_order : List ℕ → List Check
season_start_order report = (ltb (length report) report_size, 13) ∷ []

-- A JOURNAL'S BYTES: 5, 18, 19
abbrev pub season_journal_order : List ℕ → List ℕ → List Check
season_journal_order report bytes = (not (holds_report report), 5) ∷ journal_order (report_in report) bytes

-- ANOTHER REPORT: 5, 18, 19
abbrev pub season_add_order : List ℕ → List ℕ → List Check
season_add_order first second = (not (holds_report first), 5) ∷ (not (holds_report second), 5) ∷ add_order (report_in first) (report_in second)

-- A ROW: 5, 9, 13
abbrev pub season_read_order : List ℕ → ℕ → List Check
season_read_order report index = (not (holds_report report), 5) ∷ (report_out (report_in report), 5) ∷ (leb (report_in report).used index, 9) ∷ []

abbrev pub season_row_order : List ℕ → ℕ → List ℕ → List Check
season_row_order report index row = season_read_order report index ++ put_order report_row row
