-- A report as 14852 bytes: how many rows are in use, in four bytes, low byte first, and 512 rows. Assumes nothing.
use Rattle.std.specs.Prelude.{Bool, true, cond, ◌&&◌, not, List, [], ◌∷◌, ◌++◌, ℕ, zero, suc, ◌+◌, ◌*◌, ltb, length, take, drop}
use Rattle.answer.specs.Order.{Check, in_order}
use Rattle.rtcm2_state.specs.Numbers.{low_bytes, number_in}
use Rattle.rtcm2_rows.specs.Rows.{row_size, entries_from, row_bytes}
use Rattle.rtcm2_rows.specs.declared.row.Put.{Put}
use Rattle.rtcm2_rows.specs.declared.row.Put.TheVariants.{Done, Refused}
use Rattle.season_reports.specs.Reports.{most_rows, report_with}
use Rattle.season_reports.specs.declared.Report.{Report}
use Rattle.rtcm2_rows.specs.Sizes.{sized_in}
use Rattle.rtcm2_season.specs.Rows.{sizes, names_row, report_row}

-- THE SIZE of a report in bytes
abbrev pub report_size : ℕ
report_size = 4 + most_rows * row_size report_row

-- ---- READING

-- how many rows are in use
unfoldable pub used_in : List ℕ → ℕ
used_in bs = number_in (take 4 bs)

-- each of the first n rows names one
unfoldable pub all_name : ℕ → List ℕ → Bool
all_name zero bs = true
all_name (suc n) bs = names_row (sized_in sizes bs) && all_name n (drop (row_size report_row) bs)

-- HELD: there are enough bytes, at most 512 rows are in use, and each of these names one. Rows past them are not looked at.
unfoldable pub holds_report : List ℕ → Bool
holds_report bs = not (ltb (length bs) report_size) && not (ltb most_rows (used_in bs)) && all_name (used_in bs) (drop 4 bs)

-- the report of such bytes: past its rows in use it has blank rows
unfoldable pub report_of : List ℕ → Report
report_of bs = report_with (entries_from report_row (used_in bs) (drop 4 bs))

-- READ: the report that is held, or one with no row in use
unfoldable pub report_in : List ℕ → Report
report_in bs = cond (holds_report bs) (report_of bs) (report_with [])

-- ---- PUTTING: 5, 13; a refusal leaves every byte

unfoldable pub report_bytes : Report → List ℕ
report_bytes r = low_bytes 4 r.used ++ row_bytes report_row r.rows

abbrev pub report_checks : Report → List ℕ → List Check
report_checks r bs = (ltb most_rows r.used, 5) ∷ (ltb (length bs) report_size, 13) ∷ []

abbrev pub report_put_by : Report → List ℕ → Put
report_put_by r bs = in_order (report_checks r bs) Refused Done

-- as many bytes as a report takes become its own, those past them stay
unfoldable pub report_put : Report → List ℕ → List ℕ
report_put r bs = in_order (report_checks r bs) (λ n. bs) (report_bytes r ++ drop report_size bs)
