-- DEMAND 1 of the library's calls on reports of a season, and of the crate that holds reports in bytes: a defined answer, its number, and what a
-- refusal leaves. Assumes nothing.
use Rattle.std.specs.Prelude.{List, [], ◌∷◌, ℕ}
use Rattle.season_reports.specs.declared.Row.{Row}
use Rattle.season_reports.specs.declared.Report.{Report}
use Rattle.rtcm2_rows.specs.Rows.{put_order, put_by, row_after, says_put}
use Rattle.rtcm2_season.specs.Rows.{report_row}
use Rattle.rtcm2_season.specs.Reports.{holds_report, report_in, report_checks, report_put_by, report_put}
use Rattle.rtcm2.specs.Answer.{number_of, left}
use Rattle.rtcm2.specs.Rows.{row_to, row_held}
use Rattle.rtcm2.specs.Season.{season_started, journal_said, add_said, row_said, season_start_order, season_journal_order, season_add_order, season_row_order}
use Rattle.rtcm2_season.proofs.holds_report
use Rattle.rtcm2_season.proofs.report_in
use Rattle.rtcm2_season.proofs.put_report
use Rattle.rtcm2_season.proofs.row.put_row
use Rattle.rtcm2.proofs.season.rtcm2_season_start
use Rattle.rtcm2.proofs.season.rtcm2_season_journal
use Rattle.rtcm2.proofs.season.rtcm2_season_add
use Rattle.rtcm2.proofs.season.rtcm2_season_row
use Rattle.promises.specs.Answered.{Answered, AnsweredLent}
use Rattle.promises.specs.CarriesItsNumber.{Ordered}
use Rattle.promises.specs.ChangesNeither.{Keeps}

-- "Every byte sequence, frame and buffer gets a defined answer." "No call trusts its caller." "Every call ends."
pub record SeasonAnswered : Type 2 where
  -- rtcm2_season
  pub holds-report : Answered holds_report.Reads.Asked holds_report.Reads.Learnt holds_report.Statement.statement
      (λ κs (bytes, _). holds_report bytes.now)
  pub report-in : Answered report_in.Reads.Asked report_in.Reads.Learnt report_in.Statement.statement
      (λ κs (bytes, _). report_in bytes.now)
  pub put-report : AnsweredLent put_report.Reads.Asked put_report.Reads.Learnt put_report.Statement.statement
      (λ κs (report, (bytes, _)). report_put_by report bytes.now)
      (λ κs (_, (bytes, _)). bytes.now) (λ κs (report, (bytes, _)). report_put report bytes.now)
  pub put-row : AnsweredLent put_row.Reads.Asked put_row.Reads.Learnt put_row.Statement.statement
      (λ κs (_, (bytes, _)). put_by report_row bytes.now)
      (λ κs (_, (bytes, _)). bytes.now) (λ κs (row, (bytes, _)). row_after report_row row bytes.now)
  -- rtcm2::season
  pub start : AnsweredLent rtcm2_season_start.Reads.Asked rtcm2_season_start.Reads.Learnt rtcm2_season_start.Statement.statement
      (λ κs (report, _). number_of (season_started report.now))
      (λ κs (report, _). report.now) (λ κs (report, _). left (season_started report.now) (λ r. report_put r report.now) report.now)
  pub journal : AnsweredLent {B = List ℕ × ℕ} rtcm2_season_journal.Reads.Asked rtcm2_season_journal.Reads.Learnt rtcm2_season_journal.Statement.statement
      (λ κs (report, (bytes, _)). number_of (journal_said report.now bytes.now))
      (λ κs (report, (_, (used, _))). (report.now, used.now))
      (λ κs (report, (bytes, (used, _))). let s = journal_said report.now bytes.now in
      (left s (λ j. report_put j.report report.now) report.now, left s (λ j. j.used) used.now))
  pub add : AnsweredLent rtcm2_season_add.Reads.Asked rtcm2_season_add.Reads.Learnt rtcm2_season_add.Statement.statement
      (λ κs (first, (second, _)). number_of (add_said first.now second.now))
      (λ κs (first, _). first.now)
      (λ κs (first, (second, _)). left (add_said first.now second.now) (λ a. report_put a.report first.now) first.now)
  pub row : AnsweredLent rtcm2_season_row.Reads.Asked rtcm2_season_row.Reads.Learnt rtcm2_season_row.Statement.statement
      (λ κs (report, (index, (row, _))). number_of (row_to report_row (row_said report.now index) row.now))
      (λ κs (_, (_, (row, _))). row.now)
      (λ κs (report, (index, (row, _))). row_held report_row (row_said report.now index) row.now)

-- "A refusal carries its number from the table .."; where 5 stands more than once, several conditions have it
pub record SeasonNumbers : Type 0 where
  pub put-report : (r : Report) (lent : List ℕ) → Ordered (5 ∷ 13 ∷ []) (report_checks r lent) (says_put (report_put_by r lent))
  pub put-row : (lent : List ℕ) → Ordered (13 ∷ []) (put_order report_row lent) (says_put (put_by report_row lent))
  pub start : (report : List ℕ) → Ordered (13 ∷ []) (season_start_order report) (season_started report)
  pub journal : (report bytes : List ℕ) → Ordered (5 ∷ 5 ∷ 18 ∷ 19 ∷ []) (season_journal_order report bytes) (journal_said report bytes)
  pub add : (first second : List ℕ) → Ordered (5 ∷ 5 ∷ 5 ∷ 5 ∷ 18 ∷ 19 ∷ []) (season_add_order first second) (add_said first second)
  pub row : (report : List ℕ) (index : ℕ) (lent : List ℕ)
      → Ordered (5 ∷ 5 ∷ 9 ∷ 13 ∷ []) (season_row_order report index lent) (row_to report_row (row_said report index) lent)

-- ".. and changes neither state nor buffer."
pub record SeasonKeeps : Type 0 where
  pub put-report : (r : Report) (lent : List ℕ) → Keeps (says_put (report_put_by r lent)) (report_put r lent) lent
  pub put-row : (r : Row) (lent : List ℕ) → Keeps (says_put (put_by report_row lent)) (row_after report_row r lent) lent
  pub start : (report : List ℕ) → let s = season_started report in Keeps s (left s (λ r. report_put r report) report) report
  pub journal : (report bytes : List ℕ) (used : ℕ) → let s = journal_said report bytes in
      Keeps s (left s (λ j. report_put j.report report) report) report × Keeps s (left s (λ j. j.used) used) used
  pub add : (first second : List ℕ) → let s = add_said first second in Keeps s (left s (λ a. report_put a.report first) first) first
  pub row : (report : List ℕ) (index : ℕ) (lent : List ℕ)
      → Keeps (row_to report_row (row_said report index) lent) (row_held report_row (row_said report index) lent) lent
