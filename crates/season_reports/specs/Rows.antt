-- The rows of a report: a key, what was counted of it, and two rows of one key put together. Assumes nothing.
use Rattle.std.specs.Prelude.{Bool, false, not, cond, ◌&&◌, ◌||◌, ℕ, ◌+◌, ◌^◌, eqb, leb, ℤ, pos, negsuc, ◌+ℤ◌, ◌*ℤ◌}
use Rattle.std.specs.Int.Signed.{lt_z}
use Rattle.frame.specs.declared.System.{System}
use Rattle.frame.specs.declared.System.TheVariants.{Gps, Glonass}
use Rattle.season_reports.specs.declared.Key.{Key}
use Rattle.season_reports.specs.declared.Row.{Row}
use Rattle.season_reports.specs.declared.Extremes.{Extremes}
use Rattle.season_reports.specs.declared.Extremes.TheVariants.{Absent, Present}

-- ---- keys

-- the number of a system
abbrev pub system_number : System → ℕ
system_number Gps = 0
system_number Glonass = 1

-- ONE KEY: the same system, station and satellite
unfoldable pub same_key : Key → Key → Bool
same_key a b = eqb (system_number a.system) (system_number b.system) && (eqb a.station b.station && eqb a.satellite b.satellite)

-- ---- least and largest

abbrev pub lesser : ℤ → ℤ → ℤ
lesser a b = cond (lt_z b a) b a

abbrev pub greater : ℤ → ℤ → ℤ
greater a b = cond (lt_z a b) b a

-- of two rows: absent only where both are
unfoldable pub widest : Extremes → Extremes → Extremes
widest Absent other = other
widest (Present least largest) Absent = Present least largest
widest (Present least largest) (Present least2 largest2) = Present (lesser least least2) (greater largest largest2)

-- ---- rows

-- the row of a key of which nothing was read
abbrev pub empty_row : Key → Row
empty_row k = record { key = k; usable = 0; stops = 0; extremes = Absent; sum = pos 0 }

-- what stands in a report where there is no row
abbrev pub blank_row : Row
blank_row = empty_row (record { system = Gps; station = 0; satellite = 0 })

-- TWO ROWS OF ONE KEY TOGETHER: counts and sums added, the least and the largest of both
unfoldable pub together : Row → Row → Row
together a b = record {
  key = b.key;
  usable = a.usable + b.usable;
  stops = a.stops + b.stops;
  extremes = widest a.extremes b.extremes;
  sum = a.sum +ℤ b.sum;
}

abbrev pub is_zero : ℤ → Bool
is_zero (pos n) = eqb n 0
is_zero (negsuc n) = false

-- REFUSAL 5 of a row: at count 0 the sum is 0 and both ends are absent; else both are present, and the sum is from count times least to count
-- times largest
abbrev pub wrong_ends : ℕ → ℤ → Extremes → Bool
wrong_ends count sum Absent = not (eqb count 0) || not (is_zero sum)
wrong_ends count sum (Present least largest) =
    eqb count 0 || (lt_z sum (pos count *ℤ least) || lt_z (pos count *ℤ largest) sum)

unfoldable pub wrong_sum : Row → Bool
wrong_sum r = wrong_ends r.usable r.sum r.extremes

-- REFUSAL 19 of a row of totals: a count over 4,294,967,295
unfoldable pub over_count : Row → Bool
over_count r = leb (2 ^ 32) r.usable || leb (2 ^ 32) r.stops
