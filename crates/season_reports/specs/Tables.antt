-- How the calls work, private: a table to which rows are added one after the other, and rows in batches of as many as a frame has entries.
-- What comes of it is said by Gathering and Reports. Assumes nothing.
use Rattle.std.specs.Prelude.{◌≡◌, Bool, true, false, cond, ◌||◌, List, [], ◌∷◌, ℕ, suc, ◌+◌, ◌*◌, ◌^◌, ◌≤◌, ◌<◌, max, leb, take, get_or, set}
use Rattle.std.specs.Int.Signed.{mag}
use Rattle.answer.specs.Order.{in_order}
use Rattle.record_fields.specs.Coding.{Each}
use Rattle.season_reports.specs.Rows.{system_number, same_key, blank_row, together, wrong_sum}
use Rattle.season_reports.specs.Gathering.{keys_of, key_twice}
use Rattle.season_reports.specs.Reports.{most_rows, rows_in, report_with, refused_add}
use Rattle.season_reports.specs.declared.Key.{Key}
use Rattle.season_reports.specs.declared.Row.{Row}
use Rattle.season_reports.specs.declared.Extremes.{Extremes}
use Rattle.season_reports.specs.declared.Extremes.TheVariants.{Absent, Present}
use Rattle.season_reports.specs.declared.Report.{Report}
use Rattle.season_reports.specs.declared.Adding.TheVariants.{Done}
use Rattle.season_reports.specs.declared.Added.{Added}
use Rattle.season_reports.specs.declared.table.Table.{Table}
use Rattle.season_reports.specs.declared.table.Batch.{Batch}

-- ---- keys as numbers

abbrev pub code_of : Key → ℕ
code_of k = system_number k.system * 16777216 + k.station * 256 + k.satellite

-- the number of the first of a list that has a property, or the length
unfoldable pub first_index : {A : Type 0} → (A → Bool) → List A → ℕ
first_index p [] = 0
first_index p (x ∷ xs) = cond (p x) 0 (suc (first_index p xs))

-- ---- one row more

-- a count of the two together passes
abbrev pub over_both : Row → Row → Bool
over_both a b = leb (2 ^ 32) (a.usable + b.usable) || leb (2 ^ 32) (a.stops + b.stops)

-- the old row where a count would pass
abbrev pub merged : Row → Row → Row
merged old row = cond (over_both old row) old (together old row)

-- row number i with another one merged into it; where i is the number of rows in use, a blank one
abbrev pub put_row : Table → ℕ → Row → Table
put_row t i row = record {
  report = record {
    used = max t.report.used (suc i);
    rows = set t.report.rows i (merged (get_or t.report.rows i blank_row) row);
  };
  over = t.over || over_both (get_or t.report.rows i blank_row) row;
  full = t.full;
}

abbrev pub full_table : Table → Table
full_table t = record { report = t.report; over = t.over; full = true }

-- the number of the row that has a key, or of the first that is not in use
abbrev pub place_of_key : Table → Key → ℕ
place_of_key t k = first_index (λ r. same_key k r.key) (rows_in t.report)

-- rows one after the other; once one finds no room, the rest is not looked at
abbrev pub with_row : Table → Row → Table
with_row t row = let i = place_of_key t row.key in cond t.full t (cond (leb most_rows i) (full_table t) (put_row t i row))

unfoldable pub with_rows : Table → List Row → Table
with_rows t [] = t
with_rows t (row ∷ rows) = with_rows (with_row t row) rows

-- a table without rows
unfoldable pub no_table : Table
no_table = record { report = report_with []; over = false; full = false }

-- what a table says at the end: 18, 19; on a refusal the report as it was
abbrev pub finished_by : Report → Table → Added
finished_by a t = in_order ((t.full, 18) ∷ (t.over, 19) ∷ []) (refused_add a) (record { answer = Done; report = t.report })

-- ---- batches

abbrev pub rows_of_batch : Batch → List Row
rows_of_batch b = take b.count b.rows

-- ---- what is known of rows and tables on the way

-- what the types of the fields say
abbrev pub EndsTyped : Extremes → Type 0
EndsTyped Absent = Unit {0}
EndsTyped (Present least largest) = (mag least < 2 ^ 31) × (mag largest < 2 ^ 31)

pub record TypedRow (r : Row) : Type 0 where
  pub station : r.key.station < 2 ^ 16
  pub satellite : r.key.satellite < 2 ^ 8
  pub usable : r.usable < 2 ^ 32
  pub stops : r.stops < 2 ^ 32
  pub ends : EndsTyped r.extremes

-- a row that a report may have
pub record SoundRow (r : Row) : Type 0 where
  pub typed : TypedRow r
  pub right : wrong_sum r ≡ false

pub record SoundTable (t : Table) : Type 0 where
  pub few : t.report.used ≤ most_rows
  pub rows : Each SoundRow (rows_in t.report)
  pub apart : key_twice (keys_of (rows_in t.report)) ≡ false
  pub whole : t.report ≡ report_with (rows_in t.report)
