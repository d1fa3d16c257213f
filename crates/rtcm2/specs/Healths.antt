-- Constellation health, types 5 and 33: a row of bytes, and the list of the library. Assumes nothing.
use Rattle.std.specs.Prelude.{List, [], ◌∷◌, ℕ, ◌+◌, ◌*◌, ◌^◌, ◌<◌, get_or}
use Rattle.frame.specs.declared.System.{System}
use Rattle.frame.specs.declared.System.TheVariants.{Gps, Glonass}
use Rattle.record_healths.specs.Healths.{health_layout}
use Rattle.record_healths.specs.declared.SatelliteHealth.{SatelliteHealth}
use Rattle.record_healths.specs.declared.Condition.{Condition}
use Rattle.record_healths.specs.declared.Condition.TheVariants.{Code, Data}
use Rattle.record_healths.specs.Conditions.{condition_of}
use Rattle.record_fields.specs.Coding.{Coding}
use Rattle.record_fields.specs.Tables as fields
use Rattle.rtcm2_rows.specs.Tables.{row_by}
use Rattle.rtcm2.specs.Lists.{LibraryList}

-- ---- A ROW: ten numbers of a byte each, in the order of the layout, the three health bits as they are sent

abbrev pub sizes : List ℕ
sizes = fields.row (1 ∷ 1 ∷ 1 ∷ 1 ∷ 1 ∷ 1 ∷ 1 ∷ 1 ∷ 1 ∷ 1 ∷ [])

abbrev pub meant : System → List ℕ → SatelliteHealth
meant s vs = record {
  reserved = get_or vs 0 0;
  satellite = get_or vs 1 0;
  link = get_or vs 2 0;
  health = condition_of s (get_or vs 3 0);
  cn0 = get_or vs 4 0;
  enable = get_or vs 5 0;
  new_data = get_or vs 6 0;
  loss = get_or vs 7 0;
  time = get_or vs 8 0;
  spare = get_or vs 9 0;
}

-- the health bits, as a number
unfoldable pub health_bits : Condition → ℕ
health_bits (Code v) = v
health_bits (Data health reserved) = health * 4 + reserved

abbrev pub numbers : SatelliteHealth → List ℕ
numbers e =
    fields.row
    (e.reserved ∷ e.satellite ∷ e.link ∷ health_bits e.health ∷ e.cn0 ∷ e.enable ∷ e.new_data ∷ e.loss ∷ e.time ∷ e.spare ∷ [])

-- what is put does not look at the system: `row Gps` stands for both there
abbrev pub row : System → Coding SatelliteHealth
row s = row_by sizes (meant s) numbers

-- ---- THE LIST

abbrev pub health_list : LibraryList
health_list = record { plain = health_layout; row = row }

-- ---- entries whose rows say them: every number a byte, and a health of the system

abbrev pub Byte : System → Condition → Type 0
Byte Gps (Code v) = v < 2 ^ 8
Byte Gps (Data health reserved) = ⊥
Byte Glonass (Code v) = ⊥
Byte Glonass (Data health reserved) = (health < 2 ^ 6) × (reserved < 2 ^ 2)
