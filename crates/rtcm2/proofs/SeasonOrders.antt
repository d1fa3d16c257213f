-- The refusals of the calls on reports of a season, each in ONE order. Assumes nothing.
use mathlib.Core.Path.{◌≡◌, refl, sym, ap, ◌∙◌}
use mathlib.Core.Bool.{Bool, true, false, cond, not}
use mathlib.Core.List.{List, [], ◌∷◌, ◌++◌}
use Prim.Native.Nat.{ℕ}
use lib.Dec.{leb}
use lib.ListN.{get_or}
use Rattle.answer.specs.Order.{Says, refuses, answers, in_order}
use Rattle.answer.proofs.OrderLaws.{order-append, order-map}
use Rattle.rtcm2_rows.specs.Rows.{put_order, says_put}
use Rattle.rtcm2_rows.specs.declared.row.Put.TheVariants as put
use Rattle.season_reports.specs.Rows.{blank_row}
use Rattle.season_reports.specs.Gathering.{gathered}
use Rattle.season_reports.specs.Journals.{contents_of}
use Rattle.season_reports.specs.Reports.{rows_in, report_with, report_out, journal_rows, journal_order, journal_added, add_order, added_by, row_numbered, says_row}
use Rattle.season_reports.specs.declared.Row.{Row}
use Rattle.season_reports.specs.declared.Report.{Report}
use Rattle.season_reports.specs.declared.Adding.TheVariants.{Done, Refused}
use Rattle.season_reports.specs.declared.Added.{Added}
use Rattle.season_reports.specs.declared.JournalReport.{JournalReport}
use Rattle.season_reports.specs.declared.RowRead.TheVariants as read
use Rattle.rtcm2_season.specs.Rows.{report_row}
use Rattle.rtcm2_season.specs.Reports.{holds_report, report_in}
use Rattle.rtcm2.specs.Answer.{and_then}
use Rattle.rtcm2.specs.Rows.{row_to}
use Rattle.rtcm2.specs.Season.{report_held, left_by, season_started, journal_said, add_said, row_said}
use Rattle.rtcm2.specs.Season.{season_start_order, season_journal_order, season_add_order, season_read_order, season_row_order}

-- bytes that hold no report come first
held_first : {A : Type 0} (bs : List ℕ) (next : Report → Says A)
    → and_then (report_held bs) next ≡ in_order ((not (holds_report bs), 5) ∷ []) refuses (next (report_in bs))
held_first bs next = go (holds_report bs)
  where
    go : (b : Bool) → and_then (cond b (answers (report_in bs)) (refuses 5)) next ≡ in_order ((not b, 5) ∷ []) refuses (next (report_in bs))
    go true = refl
    go false = refl

-- START: 13
pub start-order : (report : List ℕ) → season_started report ≡ in_order (season_start_order report) refuses (answers (report_with []))
unfolding season_started
start-order report = refl

-- A JOURNAL'S BYTES: 5, 18, 19
unfoldable pub journal_sum : List ℕ → List ℕ → JournalReport
journal_sum report bytes = record {
  answer = Done;
  report = report_with (gathered (rows_in (report_in report) ++ journal_rows bytes));
  used = (contents_of bytes).used;
}

pub journal-order : (report bytes : List ℕ)
    → journal_said report bytes ≡ in_order (season_journal_order report bytes) refuses (answers (journal_sum report bytes))
unfolding journal_said journal_added journal_sum
journal-order report bytes =
    held_first report (λ r. left_by (journal_added r bytes).answer (journal_added r bytes))
    ∙ ap (in_order ((not (holds_report report), 5) ∷ []) refuses)
    (order-map (λ (j : JournalReport). left_by j.answer j) (journal_order (report_in report) bytes)
    (λ n. record { answer = Refused n; report = report_in report; used = 0 }) (journal_sum report bytes))

-- ANOTHER REPORT: 5, 18, 19
unfoldable pub add_sum : List ℕ → List ℕ → Added
add_sum first second = record { answer = Done; report = report_with (gathered (rows_in (report_in first) ++ rows_in (report_in second))) }

pub add-order : (first second : List ℕ) → add_said first second ≡ in_order (season_add_order first second) refuses (answers (add_sum first second))
unfolding add_said added_by add_sum
add-order first second =
    held_first first (λ a. and_then (report_held second) (λ b. left_by (added_by a b).answer (added_by a b)))
    ∙ ap (in_order ((not (holds_report first), 5) ∷ []) refuses)
    (held_first second (λ b. left_by (added_by (report_in first) b).answer (added_by (report_in first) b))
    ∙ ap (in_order ((not (holds_report second), 5) ∷ []) refuses)
    (order-map (λ (x : Added). left_by x.answer x) (add_order (report_in first) (report_in second))
    (λ n. record { answer = Refused n; report = report_in first }) (add_sum first second)))

-- A ROW: 5, 9; as bytes 5, 9, 13
unfoldable pub row_found : List ℕ → ℕ → Row
row_found report index = get_or (report_in report).rows index blank_row

pub row-said : (report : List ℕ) (index : ℕ) → row_said report index ≡ in_order (season_read_order report index) refuses (answers (row_found report index))
unfolding row_said row_numbered row_found
row-said report index =
    held_first report (λ r. says_row (row_numbered r index))
    ∙ ap (in_order ((not (holds_report report), 5) ∷ []) refuses)
    (order-map says_row ((report_out (report_in report), 5) ∷ (leb (report_in report).used index, 9) ∷ []) read.Refused (read.At (row_found report index)))

pub row-order : (report : List ℕ) (index : ℕ) (row : List ℕ)
    → row_to report_row (row_said report index) row ≡ in_order (season_row_order report index row) refuses (answers tt)
row-order report index row =
    ap (λ s. row_to report_row s row) (row-said report index)
    ∙ order-map (λ s. row_to report_row s row) (season_read_order report index) refuses (answers (row_found report index))
    ∙ ap (in_order (season_read_order report index) refuses) (order-map says_put (put_order report_row row) put.Refused put.Done)
    ∙ sym (order-append (season_read_order report index) (put_order report_row row) refuses (answers tt))
