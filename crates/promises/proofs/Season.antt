-- Reports of a season keep what is said of them (SeasonRuns, SeasonReports, SeasonSums). Assumes nothing.
use mathlib.Core.Path.{◌≡◌, sym, ap, subst, ◌∙◌}
use mathlib.Core.List.{List, [], ◌∷◌, map}
use Prim.Native.Nat.{ℕ, ◌^◌, ◌<◌}
use lib.Dec.{ltb}
use lib.ListN.{length}
use lib.Signed.{mag}
use borrow.Author.Tests.{le-ltb, ltb-false}
use Rattle.answer.specs.Order.{NoneApplies}
use Rattle.frame.specs.Widths.{any_of}
use Rattle.record_fields.specs.Coding.{Each}
use Rattle.season_reports.specs.Rows.{over_count}
use Rattle.season_reports.specs.Gathering.{first_seen, gathered}
use Rattle.season_reports.specs.Season.{row_of, season_rows}
use Rattle.season_reports.specs.Reports.{most_rows, rows_in, report_with, sum_order}
use Rattle.season_reports.specs.Running.{season_run, season_entries}
use Rattle.season_reports.specs.declared.Key.{Key}
use Rattle.season_reports.specs.declared.Row.{Row}
use Rattle.season_reports.specs.declared.Adding.TheVariants.{Done}
use Rattle.season_reports.specs.declared.Added.{Added}
use Rattle.season_reports.proofs.TableLaws.{rows_back}
use Rattle.promises.specs.Season.{CanBeKept, SeasonTotals}
use Rattle.promises.proofs.SeasonRuns.{total-entries, season-gathered, RowsFit, room-order, order-room}
use Rattle.promises.proofs.SeasonReports.{none_in, added-in, journal-in, season-in}
use Rattle.promises.proofs.SeasonReports.{rows_read, season-told, season-done, first_done, second-done, sum_done}
use Rattle.promises.proofs.SeasonSums.{season-small, row_room, row-absent, row-present}

module _ (js : List (List ℕ)) where
  abbrev rows : List Row
  rows = season_rows (season_entries js)

  same : gathered (rows_read js) ≡ rows
  same = season-gathered (season_entries js)

  totals : (season_run js).answer ≡ Done → (season_run js).report ≡ report_with rows
  totals e = ap (λ (x : Added). x.report) (season-done js (season-told js e)) ∙ ap report_with same

  kept : (season_run js).answer ≡ Done → CanBeKept rows
  kept e =
      let none : NoneApplies (sum_order (rows_read js)) = room-order (rows_read js) (season-told js e) in
      record {
        few = ltb-false most_rows (length rows) (sym (ap (λ l. ltb most_rows (length l)) same) ∙ none.0);
        counts = sym (ap (any_of over_count) same) ∙ none.1.0;
      }

  met : CanBeKept rows → (season_run js).answer ≡ Done
  met c = ap (λ (x : Added). x.answer) (season-done js (order-room (rows_read js) (
    ap (λ l. ltb most_rows (length l)) same ∙ le-ltb most_rows (length rows) c.few,
    (ap (any_of over_count) same ∙ c.counts, tt),
  )))

  SumFits : Row → Type 0
  SumFits r = mag r.sum < 2 ^ 63

  each-sum : RowsFit (rows_read js) → (ks : List Key) → Each SumFits (map (λ k. row_of k (season_entries js)) ks)
  unfolding SumFits
  each-sum room [] = tt
  each-sum room (k ∷ ks) = (
    row_room k (season_entries js) (season-small js) (sym (ap over_count (total-entries k (season_entries js))) ∙ room.counts k),
    each-sum room ks,
  )

  sums : (season_run js).answer ≡ Done → Each (λ r. mag r.sum < 2 ^ 63) (rows_in (season_run js).report)
  unfolding SumFits season_rows
  sums e =
      subst (Each SumFits) (sym (ap rows_in (totals e) ∙ rows_back rows))
      (each-sum (season-told js e) (first_seen (map (λ x. x.key) (season_entries js))))

pub season-totals : SeasonTotals
season-totals = record {
  totals = totals;
  kept = kept;
  met = met;
  split = λ js ks e. record { first = first_done js ks e; second = second-done js ks e; sum = sum_done js ks e };
  empty-in = none_in;
  added-in = added-in;
  journal-in = journal-in;
  never-5 = season-in;
  absent = row-absent;
  present = row-present;
  sums = sums;
}
