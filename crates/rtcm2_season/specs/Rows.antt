-- A row of a report as 29 bytes: system, station, satellite, usable entries, stop entries, whether least and largest are present, least, largest,
-- sum; low bytes first, signed numbers in two's complement. Assumes nothing.
use Rattle.std.specs.Prelude.{Bool, cond, ◌&&◌, ◌||◌, List, [], ◌∷◌, ◌++◌, ℕ, ◌%◌, ◌^◌, ◌<◌, ltb, eqb, get_or, replicate}
use Rattle.std.specs.Int.Signed.{mag}
use Rattle.bits.specs.Signed.{signed, code}
use Rattle.frame.specs.declared.System.{System}
use Rattle.frame.specs.declared.System.TheVariants.{Gps, Glonass}
use Rattle.record_fields.specs.Coding.{Coding}
use Rattle.season_reports.specs.Rows.{system_number}
use Rattle.season_reports.specs.declared.Row.{Row}
use Rattle.season_reports.specs.declared.Extremes.{Extremes}
use Rattle.season_reports.specs.declared.Extremes.TheVariants.{Absent, Present}
use Rattle.rtcm2_rows.specs.Sizes.{sized_in, sized_bytes}

-- THE SIZES of a row's numbers, in bytes: key and counts, then least, largest and sum
abbrev pub key_sizes : List ℕ
key_sizes = 1 ∷ 2 ∷ 1 ∷ 4 ∷ 4 ∷ []

abbrev pub end_sizes : List ℕ
end_sizes = 1 ∷ 4 ∷ 4 ∷ 8 ∷ []

abbrev pub sizes : List ℕ
sizes = key_sizes ++ end_sizes

-- ---- a row's numbers

-- present, least, largest
abbrev pub extremes_numbers : Extremes → List ℕ
extremes_numbers Absent = 0 ∷ 0 ∷ 0 ∷ []
extremes_numbers (Present least largest) = 1 ∷ code 31 least ∷ code 31 largest ∷ []

unfoldable pub row_numbers : Row → List ℕ
row_numbers r =
    system_number r.key.system ∷ r.key.station ∷ r.key.satellite ∷ r.usable ∷ r.stops ∷ (extremes_numbers r.extremes ++ (code 63 r.sum ∷ []))

-- ---- the row of numbers: these name one where there is such a system, and where least and largest are 0 if they are not present

unfoldable pub names_row : List ℕ → Bool
names_row ns = ltb (get_or ns 0 0) 2 && (eqb (get_or ns 5 0) 1 || (eqb (get_or ns 5 0) 0 && (eqb (get_or ns 6 0) 0 && eqb (get_or ns 7 0) 0)))

abbrev pub system_with : ℕ → System
system_with n = cond (eqb n 0) Gps Glonass

abbrev pub extremes_with : ℕ → ℕ → ℕ → Extremes
extremes_with present least largest = cond (eqb present 0) Absent (Present (signed 31 (least % 2 ^ 32)) (signed 31 (largest % 2 ^ 32)))

unfoldable pub row_with : List ℕ → Row
row_with ns = record {
  key = record { system = system_with (get_or ns 0 0); station = get_or ns 1 0 % 2 ^ 16; satellite = get_or ns 2 0 % 2 ^ 8 };
  usable = get_or ns 3 0 % 2 ^ 32;
  stops = get_or ns 4 0 % 2 ^ 32;
  extremes = extremes_with (get_or ns 5 0) (get_or ns 6 0) (get_or ns 7 0);
  sum = signed 63 (get_or ns 8 0);
}

-- ---- A ROW as bytes, read and put

abbrev pub report_row : Coding Row
report_row = record { widths = replicate 29 8; meant = λ bs. row_with (sized_in sizes bs); codes = λ r. sized_bytes sizes (row_numbers r) }

-- ---- what the types of the fields say of every row

abbrev pub EndsFit : Extremes → Type 0
EndsFit Absent = Unit {0}
EndsFit (Present least largest) = (mag least < 2 ^ 31) × (mag largest < 2 ^ 31)

pub record RowFits (r : Row) : Type 0 where
  pub station : r.key.station < 2 ^ 16
  pub satellite : r.key.satellite < 2 ^ 8
  pub usable : r.usable < 2 ^ 32
  pub stops : r.stops < 2 ^ 32
  pub extremes : EndsFit r.extremes
  pub sum : mag r.sum < 2 ^ 63
