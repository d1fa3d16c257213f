-- REPORTS OF A SEASON through the library: what a call puts into lent bytes is read back from them and is never refused with 5, and the report of
-- some journals with that of others added is the report of all. Assumes nothing.
use Rattle.std.specs.Prelude.{◌≡◌, false, List, [], ◌∷◌, ◌++◌, ℕ, ◌≤◌, length}
use Rattle.answer.specs.Order.{Says, answers}
use Rattle.season_reports.specs.Reports.{report_with, report_out}
use Rattle.season_reports.specs.declared.Row.{Row}
use Rattle.season_reports.specs.declared.Report.{Report}
use Rattle.season_reports.specs.declared.Added.{Added}
use Rattle.season_reports.specs.declared.JournalReport.{JournalReport}
use Rattle.rtcm2_rows.specs.Rows.{row_size, entry_of}
use Rattle.rtcm2_season.specs.Rows.{report_row}
use Rattle.rtcm2_season.specs.Reports.{report_size, report_put}
use Rattle.rtcm2.specs.Answer.{and_then}
use Rattle.rtcm2.specs.Rows.{row_held}
use Rattle.rtcm2.specs.Season.{report_held, journal_said, add_said, row_said}

-- the bytes hold this report, and no call refuses it with 5
pub record HoldsRight (bs : List ℕ) (r : Report) : Type 0 where
  pub held : report_held bs ≡ answers r
  pub right : report_out r ≡ false

-- bytes as rtcm2_season_start leaves them
abbrev pub begun : List ℕ → List ℕ
begun bs = report_put (report_with []) bs

-- the bytes after journals, one call for each, or the refusal that there was
abbrev pub after_calls : List ℕ → List (List ℕ) → Says (List ℕ)
after_calls bs [] = answers bs
after_calls bs (j ∷ js) = and_then (journal_said bs j) (λ a. after_calls (report_put a.report bs) js)

-- the journals in two runs, the second added to the first, and what that leaves
pub record AddsUp (first second : List ℕ) (js ks : List (List ℕ)) (all : List ℕ) : Type 0 where
  pub one : List ℕ
  pub other : List ℕ
  pub sum : Added
  pub one-run : after_calls (begun first) js ≡ answers one
  pub other-run : after_calls (begun second) ks ≡ answers other
  pub added : add_said one other ≡ answers sum
  pub all-of-it : report_put sum.report one ≡ all

pub record LibrarySeason : Type 0 where
  pub begun-right : (bs : List ℕ) → report_size ≤ length bs → HoldsRight (begun bs) (report_with [])
  pub journal-right : (bs bytes : List ℕ) (j : JournalReport) → journal_said bs bytes ≡ answers j → HoldsRight (report_put j.report bs) j.report
  pub add_right : (first second : List ℕ) (a : Added) → add_said first second ≡ answers a → HoldsRight (report_put a.report first) a.report
  -- a row that is put says the row that was read
  pub row_back : (bs : List ℕ) (index : ℕ) (lent : List ℕ) → row_size report_row ≤ length lent → (r : Row) → row_said bs index ≡ answers r
      → entry_of report_row (row_held report_row (row_said bs index) lent) ≡ r
  -- where the run over all journals meets no refusal, the two parts meet none, nor does adding them, and the bytes are those of the whole run
  pub adds-up : (first second : List ℕ) → report_size ≤ length first → report_size ≤ length second → (js ks : List (List ℕ)) (all : List ℕ)
      → after_calls (begun first) (js ++ ks) ≡ answers all → AddsUp first second js ks all
