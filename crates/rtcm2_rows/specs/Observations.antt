-- An observation as twelve bytes, the same in both editions and types: which mark and its bit, code, system, satellite, quality, losses or
-- multipath, which number it is (0 a phase, 1 a range), and the number in four bytes with the low one first. Assumes nothing.
use Rattle.std.specs.Prelude.{cond, List, [], ◌∷◌, ℕ, ◌+◌, ◌*◌, ◌/◌, ◌%◌, ◌≤◌, eqb, get_or, replicate}
use Rattle.bits.specs.Signed.{signed, code}
use Rattle.record_fields.specs.Coding.{Coding}
use Rattle.record_observations.specs.declared.Mark.{Mark}
use Rattle.record_observations.specs.declared.Mark.TheVariants.{Half, Reserved, More}
use Rattle.record_observations.specs.declared.Measured.{Measured}
use Rattle.record_observations.specs.declared.Measured.TheVariants.{Phase, Range}
use Rattle.record_observations.specs.declared.Observation.{Observation}
use Rattle.record_observations.specs.Editions.{which_mark, mark_bit}

-- a mark by its number, 0 half a wavelength, 1 reserved, 2 more follow; another number gives one that no edition and type has, refused with 10
unfoldable pub mark_with : ℕ → ℕ → Mark
mark_with which bit = cond (eqb which 0) (Half bit) (cond (eqb which 1) (Reserved bit) (cond (eqb which 2) (More bit) (More 255)))

-- what was measured by its number; another number than 0 and 1 gives one that no type has
unfoldable pub measured_with : ℕ → ℕ → ℕ → Measured
measured_with which beside amount =
    cond (eqb which 0) (Phase beside (signed 31 amount)) (cond (eqb which 1) (Range beside amount) (Range 255 amount))

-- and back
unfoldable pub which_measured : Measured → ℕ
which_measured (Phase a z) = 0
which_measured (Range a n) = 1

unfoldable pub beside_byte : Measured → ℕ
beside_byte (Phase a z) = a
beside_byte (Range a n) = a

unfoldable pub amount_number : Measured → ℕ
amount_number (Phase a z) = code 31 z
amount_number (Range a n) = n

-- four bytes as a number
abbrev pub four_bytes : List ℕ → ℕ → ℕ
four_bytes vs i = get_or vs i 0 + 256 * (get_or vs (i + 1) 0 + 256 * (get_or vs (i + 2) 0 + 256 * get_or vs (i + 3) 0))

abbrev pub meant : List ℕ → Observation
meant vs = record {
  mark = mark_with (get_or vs 0 0) (get_or vs 1 0);
  code = get_or vs 2 0;
  system = get_or vs 3 0;
  satellite = get_or vs 4 0;
  quality = get_or vs 5 0;
  measured = measured_with (get_or vs 7 0) (get_or vs 6 0) (four_bytes vs 8);
}

abbrev pub codes : Observation → List ℕ
codes o =
    let n = amount_number o.measured in
    which_mark o.mark ∷ mark_bit o.mark ∷ o.code ∷ o.system ∷ o.satellite ∷ o.quality
    ∷ beside_byte o.measured % 256 ∷ which_measured o.measured % 256
    ∷ n % 256 ∷ n / 256 % 256 ∷ n / 65536 % 256 ∷ n / 16777216 % 256 ∷ []

abbrev pub row : Coding Observation
row = record { widths = replicate 12 8; meant = meant; codes = codes }

-- bytes that name a mark and a number: all others are refused with 10
abbrev pub Named : List ℕ → Type 0
Named vs = (get_or vs 0 0 ≤ 2) × (get_or vs 7 0 ≤ 1)
