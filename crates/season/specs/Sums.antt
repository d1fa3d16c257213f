-- THE TOTALS of a report: its counts added up, and of the sums what is above 0 and what is below. Assumes nothing.
use Rattle.std.specs.Prelude.{List, ℕ, suc, ℤ, pos, negsuc}
use Rattle.std.specs.List.{sum_by}
use Rattle.season_reports.specs.declared.Row.{Row}

-- what a signed number adds to what is above 0, and to what is below
abbrev pub above_of : ℤ → ℕ
above_of (pos n) = n
above_of (negsuc k) = 0

abbrev pub below_of : ℤ → ℕ
below_of (pos n) = 0
below_of (negsuc k) = suc k

-- of all rows together
abbrev pub usable_in : List Row → ℕ
usable_in rows = sum_by (λ row. row.usable) rows

abbrev pub stops_in : List Row → ℕ
stops_in rows = sum_by (λ row. row.stops) rows

abbrev pub above_in : List Row → ℕ
above_in rows = sum_by (λ row. above_of row.sum) rows

abbrev pub below_in : List Row → ℕ
below_in rows = sum_by (λ row. below_of row.sum) rows
