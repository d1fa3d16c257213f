-- DEMAND 1, call by call: reports of a season. Assumes nothing.
use Rattle.std.specs.Prelude.{[]}
use Rattle.season_reports.specs.Reports.{report_with, report_out, added_by, journal_added, row_numbered}
use Rattle.season_reports.proofs.empty
use Rattle.season_reports.proofs.report_out
use Rattle.season_reports.proofs.add_report
use Rattle.season_reports.proofs.add_journal
use Rattle.season_reports.proofs.row_at
use Rattle.promises.specs.Answered.{Answered}

pub record SeasonCalls : Type 2 where
  pub empty : Answered empty.Reads.Asked empty.Reads.Learnt empty.Statement.statement
      (λ κs a. report_with [])
  pub report-out : Answered report_out.Reads.Asked report_out.Reads.Learnt report_out.Statement.statement
      (λ κs (report, _). report_out report)
  pub add-report : Answered add_report.Reads.Asked add_report.Reads.Learnt add_report.Statement.statement
      (λ κs (first, (second, _)). added_by first second)
  pub add-journal : Answered add_journal.Reads.Asked add_journal.Reads.Learnt add_journal.Statement.statement
      (λ κs (report, (bytes, _)). journal_added report bytes.now)
  pub row-at : Answered row_at.Reads.Asked row_at.Reads.Learnt row_at.Statement.statement
      (λ κs (report, (index, _)). row_numbered report index)
