-- Types 5 and 33, over the system: the layout as data, what its codes mean, and the answers in their orders. Assumes nothing.
use Rattle.std.specs.Prelude.{Bool, false, List, [], ◌∷◌, ℕ, ◌^◌, ◌≤◌, ◌<◌, get_or}
use Rattle.answer.specs.Order.{Says, refuses, answers}
use Rattle.frame.specs.declared.Header.{Header}
use Rattle.frame.specs.declared.Frame.{Frame}
use Rattle.frame.specs.declared.Layout.TheVariants as layout
use Rattle.frame.specs.declared.System.{System}
use Rattle.record_fields.specs.Coding.{Coding}
use Rattle.record_fields.specs.Tables.{row, codes_of, row_out}
use Rattle.record_fields.specs.Satellites.{satellite_of}
use Rattle.record_stages.specs.declared.Count.{Count}
use Rattle.record_stages.specs.declared.Made.{Made}
use Rattle.record_stages.specs.Lists.{ListLayout, counted, entry_at, made, HoldsList}
use Rattle.record_healths.specs.declared.SatelliteHealth.{SatelliteHealth}
use Rattle.record_healths.specs.declared.HealthRead.{HealthRead}
use Rattle.record_healths.specs.declared.HealthRead.TheVariants as read
use Rattle.record_healths.specs.Conditions.{condition_of, condition_number, ConditionInRange}

-- THE LAYOUT of both systems, 24 bits: reserved, satellite, link to IOD or tb, health, C/N0, enable, new data, loss warning, time, reserved
abbrev pub widths : List ℕ
widths = 1 ∷ 5 ∷ 1 ∷ 3 ∷ 5 ∷ 1 ∷ 1 ∷ 1 ∷ 4 ∷ 2 ∷ []

abbrev pub meant : System → List ℕ → SatelliteHealth
meant s vs = record {
  reserved = get_or vs 0 0;
  satellite = satellite_of (get_or vs 1 0);
  link = get_or vs 2 0;
  health = condition_of s (get_or vs 3 0);
  cn0 = get_or vs 4 0;
  enable = get_or vs 5 0;
  new_data = get_or vs 6 0;
  loss = get_or vs 7 0;
  time = get_or vs 8 0;
  spare = get_or vs 9 0;
}

-- an entry's numbers, in the order of the fields
abbrev pub numbers : System → SatelliteHealth → List ℕ
numbers s e =
    row (e.reserved ∷ e.satellite ∷ e.link ∷ condition_number s e.health ∷ e.cn0 ∷ e.enable ∷ e.new_data ∷ e.loss ∷ e.time ∷ e.spare ∷ [])

-- what is sent of them, their low bits: satellite 32 is sent as 0
abbrev pub codes : System → SatelliteHealth → List ℕ
codes s e = codes_of widths (numbers s e)

abbrev pub coding : System → Coding SatelliteHealth
coding s = record { widths = widths; meant = meant s; codes = codes s }

-- entries end with a word: no bit is left to fill
abbrev pub fill : ℕ
fill = 0

-- REFUSAL 10: a field over its width, satellite not 1 to 32, the other system's condition
abbrev pub least : List ℕ
least = 0 ∷ 1 ∷ 0 ∷ 0 ∷ 0 ∷ 0 ∷ 0 ∷ 0 ∷ 0 ∷ 0 ∷ []

abbrev pub most : List ℕ
most = 1 ∷ 32 ∷ 1 ∷ 7 ∷ 31 ∷ 1 ∷ 1 ∷ 1 ∷ 15 ∷ 3 ∷ []

abbrev pub out_of_range : System → SatelliteHealth → Bool
out_of_range s e = row_out least most (numbers s e)

-- IN RANGE: every field within its width, satellite 1 to 32, the system's own condition
pub record InRange (s : System) (e : SatelliteHealth) : Type 0 where
  pub reserved : e.reserved < 2 ^ 1
  pub link : e.link < 2 ^ 1
  pub health : ConditionInRange s e.health
  pub cn0 : e.cn0 < 2 ^ 5
  pub enable : e.enable < 2 ^ 1
  pub new : e.new_data < 2 ^ 1
  pub loss : e.loss < 2 ^ 1
  pub time : e.time < 2 ^ 4
  pub spare : e.spare < 2 ^ 2
  pub some : 0 < e.satellite
  pub few : e.satellite ≤ 32

-- in the table's terms
abbrev pub says_health_read : HealthRead → Says SatelliteHealth
says_health_read (read.Entry e) = answers e
says_health_read (read.Refused n) = refuses n

-- THE LAYOUT: at most 31 entries; every entry that bits can say is in range, and reading has no 10
abbrev pub health_layout : ListLayout
health_layout = record {
  Entry = SatelliteHealth;
  Read = HealthRead;
  refused = read.Refused;
  entry = read.Entry;
  says = says_health_read;
  asked = layout.Health;
  coding = coding;
  pattern = fill;
  most = 31;
  out = out_of_range;
  ranged = false;
  late = λ e. false;
  Typed = λ e. Unit {0};
  InRange = InRange;
}

-- ---- the answers

-- COUNT: 5, 6, 7, 8
unfoldable pub count_healths : Frame → Count
count_healths = counted health_layout

-- ENTRY: 5, 6, 7, 8, 9
unfoldable pub health_at : Frame → ℕ → HealthRead
health_at = entry_at health_layout

-- MAKING: 5, 6, 7, 12, 10
unfoldable pub make_healths : Header → List SatelliteHealth → ℕ → Made
make_healths = made health_layout

-- a frame that holds c healths: 1 to 31
abbrev pub HoldsHealths : Frame → ℕ → Type 0
HoldsHealths = HoldsList health_layout
