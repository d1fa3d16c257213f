-- The calls on reports of a season: each contract is an equation for the answer and one for each lent place, asks nothing, and was met as its crate
-- was checked; each order is a law of its own (rtcm2/proofs/SeasonOrders). Assumes nothing.
use mathlib.Core.Path.{refl}
use mathlib.Core.List.{List, [], ◌∷◌}
use Prim.Native.Nat.{ℕ}
use Rattle.answer.specs.Order.{Says, refuses, answers}
use Rattle.answer.proofs.OrderLaws.{says-order}
use Rattle.record_fields.specs.Coding.{Coding}
use Rattle.season_reports.specs.declared.Report.{Report}
use Rattle.rtcm2_rows.specs.Rows.{says_put}
use Rattle.rtcm2_rows.specs.declared.row.Put.TheVariants as put
use Rattle.rtcm2_season.specs.Rows.{report_row}
use Rattle.rtcm2_season.specs.Reports.{report_checks, report_put_by, report_put}
use Rattle.rtcm2_season.proofs as rtcm2_season
use Rattle.rtcm2.specs.Rows.{row_to, row_held}
use Rattle.rtcm2.specs.Season.{row_said, season_start_order, season_journal_order, season_add_order, season_row_order}
use Rattle.rtcm2.proofs as rtcm2
use Rattle.rtcm2.proofs.SeasonOrders.{start-order, journal-order, add-order, row-order}
use Rattle.promises.specs.CarriesItsNumber.{Ordered}
use Rattle.promises.specs.ChangesNeither.{Keeps}
use Rattle.promises.proofs.Answered.{two-places}
use Rattle.promises.proofs.CarriesItsNumber.{ordered}
use Rattle.promises.proofs.ChangesNeither.{keeps}
use Rattle.rtcm2_promises.specs.SeasonCalls.{SeasonAnswered, SeasonNumbers, SeasonKeeps}
use Rattle.rtcm2_promises.proofs.CarriesItsNumber.{put-ordered}

pub season-answered : SeasonAnswered
season-answered = record {
  holds-report = record { asks_nothing = λ κs a. tt; settles = λ κs a z e p. p; ends = rtcm2_season.holds_report.Met.met };
  report-in = record { asks_nothing = λ κs a. tt; settles = λ κs a z e p. p; ends = rtcm2_season.report_in.Met.met };
  put-report = record { asks_nothing = λ κs a. tt; settles = λ κs a z e p. p.0; leaves = λ κs a z e p. p.1; ends = rtcm2_season.put_report.Met.met };
  put-row = record { asks_nothing = λ κs a. tt; settles = λ κs a z e p. p.0; leaves = λ κs a z e p. p.1; ends = rtcm2_season.row.put_row.Met.met };
  start = record { asks_nothing = λ κs a. tt; settles = λ κs a z e p. p.0; leaves = λ κs a z e p. p.1; ends = rtcm2.season.rtcm2_season_start.Met.met };
  journal = record {
    asks_nothing = λ κs a. tt;
    settles = λ κs a z e p. p.0;
    leaves = λ κs a z e p. two-places p.1;
    ends = rtcm2.season.rtcm2_season_journal.Met.met;
  };
  add = record { asks_nothing = λ κs a. tt; settles = λ κs a z e p. p.0; leaves = λ κs a z e p. p.1; ends = rtcm2.season.rtcm2_season_add.Met.met };
  row = record { asks_nothing = λ κs a. tt; settles = λ κs a z e p. p.0; leaves = λ κs a z e p. p.1; ends = rtcm2.season.rtcm2_season_row.Met.met };
}

-- a report as bytes: 5, 13
report-ordered : (r : Report) (lent : List ℕ) → Ordered (5 ∷ 13 ∷ []) (report_checks r lent) (says_put (report_put_by r lent))
report-ordered r lent = ordered (report_checks r lent) _ (says-order says_put put.Refused (λ n. refl) put.Done (report_checks r lent) refl) refl refl

pub season-numbers : SeasonNumbers
season-numbers = record {
  put-report = report-ordered;
  put-row = put-ordered report_row;
  start = λ report. ordered (season_start_order report) _ (start-order report) refl refl;
  journal = λ report bytes. ordered (season_journal_order report bytes) _ (journal-order report bytes) refl refl;
  add = λ first second. ordered (season_add_order first second) _ (add-order first second) refl refl;
  row = λ report index lent. ordered (season_row_order report index lent) _ (row-order report index lent) refl refl;
}

report-keeps : (r : Report) (lent : List ℕ) → Keeps (says_put (report_put_by r lent)) (report_put r lent) lent
unfolding report_put
report-keeps r lent = keeps (report-ordered r lent) (λ b. b) (λ n. lent) _ _ (λ n. refl)

row_keeps : {A : Type 0} (k : Coding A) (s : Says A) (lent : List ℕ) → Keeps (row_to k s lent) (row_held k s lent) lent
row_keeps k (answers x) lent = keeps (put-ordered k lent) (λ b. b) (λ n. lent) _ _ (λ n. refl)
row_keeps k (refuses m) lent = λ n e. refl

pub season-keeps : SeasonKeeps
season-keeps = record {
  put-report = report-keeps;
  put-row = λ r lent. row_keeps report_row (answers r) lent;
  start = λ report n e. rw e;
  journal = λ report bytes used. (λ n e. rw e, λ n e. rw e);
  add = λ first second n e. rw e;
  row = λ report index lent. row_keeps report_row (row_said report index) lent;
}
