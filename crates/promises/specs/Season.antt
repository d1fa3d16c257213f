-- A SEASON (request 109): what runs over journals come to. Totals are said over all entries that were read, not by a table. Assumes nothing.
use Rattle.std.specs.Prelude.{◌≡◌, false, List, [], ◌++◌, ℕ, ◌^◌, ◌≤◌, ◌<◌, length}
use Rattle.std.specs.Int.Signed.{mag}
use Rattle.frame.specs.Widths.{any_of}
use Rattle.record_fields.specs.Coding.{Each}
use Rattle.season_reports.specs.Rows.{over_count}
use Rattle.season_reports.specs.Season.{Entry, row_of, season_rows}
use Rattle.season_reports.specs.Reports.{most_rows, rows_in, report_with, report_out, added_by, journal_added}
use Rattle.season_reports.specs.Running.{season_run, season_entries}
use Rattle.season_reports.specs.declared.Key.{Key}
use Rattle.season_reports.specs.declared.Row.{Row}
use Rattle.season_reports.specs.declared.Extremes.TheVariants.{Absent}
use Rattle.season_reports.specs.declared.Report.{Report}
use Rattle.season_reports.specs.declared.Adding.TheVariants.{Done}

-- the rows of a run can be kept: neither 18 nor 19
pub record CanBeKept (rows : List Row) : Type 0 where
  pub few : length rows ≤ most_rows
  pub counts : any_of over_count rows ≡ false

-- the two parts of a run meet no refusal, and the second's report added to the first's is the report of all
pub record InTwo (js ks : List (List ℕ)) : Type 0 where
  pub first : (season_run js).answer ≡ Done
  pub second : (season_run ks).answer ≡ Done
  pub sum : added_by (season_run js).report (season_run ks).report ≡ season_run (js ++ ks)

pub record SeasonTotals : Type 0 where
  -- TOTALS "over all entries read": a run that meets no refusal leaves their rows
  pub totals : (js : List (List ℕ)) → (season_run js).answer ≡ Done → (season_run js).report ≡ report_with (season_rows (season_entries js))
  -- and it meets none exactly where these rows can be kept
  pub kept : (js : List (List ℕ)) → (season_run js).answer ≡ Done → CanBeKept (season_rows (season_entries js))
  pub met : (js : List (List ℕ)) → CanBeKept (season_rows (season_entries js)) → (season_run js).answer ≡ Done
  -- "splitting the same journals in two and adding the second report to the first gives the report of all"
  pub split : (js ks : List (List ℕ)) → (season_run (js ++ ks)).answer ≡ Done → InTwo js ks
  -- a report from these calls is never refused with 5, also where they refuse
  pub empty-in : report_out (report_with []) ≡ false
  pub added-in : (a b : Report) → report_out a ≡ false → report_out (added_by a b).report ≡ false
  pub journal-in : (a : Report) (bs : List ℕ) → report_out a ≡ false → report_out (journal_added a bs).report ≡ false
  pub never-5 : (js : List (List ℕ)) → report_out (season_run js).report ≡ false
  -- "absent where a row has no usable entry", and there alone
  pub absent : (k : Key) (es : List Entry) → (row_of k es).usable ≡ 0 → (row_of k es).extremes ≡ Absent
  pub present : (k : Key) (es : List Entry) → (row_of k es).extremes ≡ Absent → (row_of k es).usable ≡ 0
  -- sums never overflow: a sum of a run that meets no refusal has room in 64 bits, with its sign
  pub sums : (js : List (List ℕ)) → (season_run js).answer ≡ Done → Each (λ r. mag r.sum < 2 ^ 63) (rows_in (season_run js).report)
