-- A correction of types 41 and 42 as seven bytes: satellite, UDRE, IOD, PRC and delay, the last two in two bytes each with the low one first.
-- Assumes nothing.
use Rattle.std.specs.Prelude.{List, [], ◌∷◌, ℕ, ◌+◌, ◌*◌, ◌/◌, ◌%◌, ◌^◌, ◌<◌, get_or, replicate}
use Rattle.std.specs.Int.Signed.{mag}
use Rattle.bits.specs.Signed.{signed, code}
use Rattle.record_fields.specs.Coding.{Coding}
use Rattle.record_generals.specs.declared.General.{General}

-- PRC is two's complement of sixteen bits, the delay has no sign
abbrev pub meant : List ℕ → General
meant vs = record {
  satellite = get_or vs 0 0;
  udre = get_or vs 1 0;
  iod = get_or vs 2 0;
  prc = signed 15 (get_or vs 3 0 + 256 * get_or vs 4 0);
  delay = get_or vs 5 0 + 256 * get_or vs 6 0;
}

abbrev pub codes : General → List ℕ
codes e =
    e.satellite ∷ e.udre ∷ e.iod ∷ code 15 e.prc % 256 ∷ code 15 e.prc / 256 % 256 ∷ e.delay % 256 ∷ e.delay / 256 % 256 ∷ []

abbrev pub row : Coding General
row = record { widths = replicate 7 8; meant = meant; codes = codes }

-- what the types of the fields say of every entry
pub record Typed (e : General) : Type 0 where
  pub satellite : e.satellite < 2 ^ 8
  pub udre : e.udre < 2 ^ 8
  pub iod : e.iod < 2 ^ 8
  pub prc : mag e.prc < 2 ^ 15
  pub delay : e.delay < 2 ^ 16
