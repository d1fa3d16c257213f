-- The statistics of a season over all entries that were read: of each key its usable and its stop entries, the least and the largest PRC in mm,
-- and their exact sum. No table stands here. Assumes nothing.
use Rattle.std.specs.Prelude.{cond, List, [], ◌∷◌, map, ℕ, suc, ℤ, pos, ◌+ℤ◌, length}
use Rattle.record_corrections.specs.declared.Correction.{Correction}
use Rattle.record_values.specs.Values.{Reading, exactly, stop, is_lowest, prc_value}
use Rattle.season_reports.specs.Rows.{same_key, widest}
use Rattle.season_reports.specs.Gathering.{first_seen}
use Rattle.season_reports.specs.declared.Key.{Key}
use Rattle.season_reports.specs.declared.Row.{Row}
use Rattle.season_reports.specs.declared.Extremes.{Extremes}
use Rattle.season_reports.specs.declared.Extremes.TheVariants.{Absent, Present}

-- AN ENTRY that was read: whose it is, and its PRC in mm or that it says stop
pub record Entry : Type 0 where
  pub key : Key
  pub reading : Reading

-- STOP by PRC -32768 or by RRC -128; else PRC in mm
unfoldable pub reading_of : Correction → Reading
reading_of e = cond (is_lowest 7 e.rrc) stop (prc_value e.scale e.prc)

-- ---- of one key, over all entries

-- the mm of its usable entries
abbrev pub usable_with : Reading → List ℤ → List ℤ
usable_with (exactly mm) others = mm ∷ others
usable_with stop others = others

unfoldable pub usable_of : Key → List Entry → List ℤ
usable_of k [] = []
usable_of k (e ∷ es) = cond (same_key k e.key) (usable_with e.reading (usable_of k es)) (usable_of k es)

-- how many of its entries say stop
abbrev pub stops_with : Reading → ℕ → ℕ
stops_with (exactly mm) others = others
stops_with stop others = suc others

unfoldable pub stops_of : Key → List Entry → ℕ
stops_of k [] = 0
stops_of k (e ∷ es) = cond (same_key k e.key) (stops_with e.reading (stops_of k es)) (stops_of k es)

-- the least and the largest of some numbers, absent where there is none; their sum
unfoldable pub ends_of : List ℤ → Extremes
ends_of [] = Absent
ends_of (z ∷ zs) = widest (Present z z) (ends_of zs)

unfoldable pub sum_of : List ℤ → ℤ
sum_of [] = pos 0
sum_of (z ∷ zs) = z +ℤ sum_of zs

-- THE ROW of a key
unfoldable pub row_of : Key → List Entry → Row
row_of k es = record {
  key = k;
  usable = length (usable_of k es);
  stops = stops_of k es;
  extremes = ends_of (usable_of k es);
  sum = sum_of (usable_of k es);
}

-- THE ROWS OF A SEASON: one for each key, in the order first seen
unfoldable pub season_rows : List Entry → List Row
season_rows es = map (λ k. row_of k es) (first_seen (map (λ e. e.key) es))

-- ---- an entry as a row of its own, with one usable entry or one stop

abbrev pub reading_row : Key → Reading → Row
reading_row k (exactly mm) = record { key = k; usable = 1; stops = 0; extremes = Present mm mm; sum = mm }
reading_row k stop = record { key = k; usable = 0; stops = 1; extremes = Absent; sum = pos 0 }

abbrev pub entry_row : Entry → Row
entry_row e = reading_row e.key e.reading
