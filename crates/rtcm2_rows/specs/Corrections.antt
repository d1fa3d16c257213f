-- A correction as seven bytes, over the system: scale, UDRE, satellite, PRC in two bytes with the low one first, RRC, and the last eight bits as
-- they are sent. Assumes nothing.
use Rattle.std.specs.Prelude.{List, [], ◌∷◌, ℕ, ◌+◌, ◌*◌, ◌/◌, ◌%◌, ◌^◌, ◌<◌, get_or, replicate}
use Rattle.std.specs.Int.Signed.{mag}
use Rattle.bits.specs.Signed.{signed, code}
use Rattle.frame.specs.declared.System.{System}
use Rattle.frame.specs.declared.System.TheVariants.{Gps, Glonass}
use Rattle.record_fields.specs.Coding.{Coding}
use Rattle.record_corrections.specs.declared.Issue.{Issue}
use Rattle.record_corrections.specs.declared.Issue.TheVariants.{Iod, Age}
use Rattle.record_corrections.specs.declared.Correction.{Correction}
use Rattle.record_corrections.specs.Issues.{issue_in}

-- the last eight bits, as a byte
unfoldable pub last_byte : Issue → ℕ
last_byte (Iod v) = v
last_byte (Age change tb) = (change * 128 + tb) % 256

-- PRC and RRC are two's complement
abbrev pub meant : System → List ℕ → Correction
meant s vs = record {
  scale = get_or vs 0 0;
  udre = get_or vs 1 0;
  satellite = get_or vs 2 0;
  prc = signed 15 (get_or vs 3 0 + 256 * get_or vs 4 0);
  rrc = signed 7 (get_or vs 5 0);
  issue = issue_in s (get_or vs 6 0);
}

abbrev pub codes : Correction → List ℕ
codes e =
    e.scale ∷ e.udre ∷ e.satellite ∷ code 15 e.prc % 256 ∷ code 15 e.prc / 256 % 256 ∷ code 7 e.rrc % 256 ∷ last_byte e.issue ∷ []

-- what is put does not look at the system: `row Gps` stands for both there
abbrev pub row : System → Coding Correction
row s = record { widths = replicate 7 8; meant = meant s; codes = codes }

-- eight bits of a system
abbrev pub Eight : System → Issue → Type 0
Eight Gps (Iod v) = v < 2 ^ 8
Eight Gps (Age change tb) = ⊥
Eight Glonass (Iod v) = ⊥
Eight Glonass (Age change tb) = (change < 2 ^ 1) × (tb < 2 ^ 7)

-- what the types of the fields say of every entry, and that its issue is of the system and of eight bits
pub record Typed (s : System) (e : Correction) : Type 0 where
  pub scale : e.scale < 2 ^ 8
  pub udre : e.udre < 2 ^ 8
  pub satellite : e.satellite < 2 ^ 8
  pub prc : mag e.prc < 2 ^ 15
  pub rrc : mag e.rrc < 2 ^ 7
  pub issue : Eight s e.issue
