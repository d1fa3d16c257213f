-- Each contract of season reports is an equation, asks nothing, and was met as its crate was checked. Assumes nothing.
use Rattle.season_reports.proofs as season-reports
use Rattle.promises.specs.SeasonCalls.{SeasonCalls}

pub season-calls : SeasonCalls
season-calls = record {
  empty = record { asks_nothing = λ κs a. tt; settles = λ κs a z e p. p; ends = season-reports.empty.Met.met };
  report-out = record { asks_nothing = λ κs a. tt; settles = λ κs a z e p. p.0; ends = season-reports.report_out.Met.met };
  add-report = record { asks_nothing = λ κs a. tt; settles = λ κs a z e p. p; ends = season-reports.add_report.Met.met };
  add-journal = record { asks_nothing = λ κs a. tt; settles = λ κs a z e p. p; ends = season-reports.add_journal.Met.met };
  row-at = record { asks_nothing = λ κs a. tt; settles = λ κs a z e p. p; ends = season-reports.row_at.Met.met };
}
