-- Types 1, 9, 31 and 34, over the system: the layout as data, what its codes mean, and the answers in their orders. Assumes nothing.
use Rattle.std.specs.Prelude.{Bool, true, List, [], ◌∷◌, ℕ, ◌^◌, ◌≤◌, ◌<◌, get_or}
use Rattle.std.specs.Int.Signed.{mag}
use Rattle.answer.specs.Order.{Says, refuses, answers}
use Rattle.bits.specs.Signed.{signed, code}
use Rattle.frame.specs.declared.Header.{Header}
use Rattle.frame.specs.declared.Frame.{Frame}
use Rattle.frame.specs.declared.Layout.TheVariants as layout
use Rattle.frame.specs.declared.System.{System}
use Rattle.record_fields.specs.Coding.{Coding}
use Rattle.record_fields.specs.Tables.{row, codes_of, row_out}
use Rattle.record_fields.specs.Satellites.{satellite_of}
use Rattle.record_stages.specs.declared.Count.{Count}
use Rattle.record_stages.specs.declared.Made.{Made}
use Rattle.record_stages.specs.Lists.{ListLayout, counted, entry_at, made, SendableList, HoldsList}
use Rattle.record_corrections.specs.declared.Correction.{Correction}
use Rattle.record_corrections.specs.declared.CorrectionRead.{CorrectionRead}
use Rattle.record_corrections.specs.declared.CorrectionRead.TheVariants as read
use Rattle.record_corrections.specs.Issues.{issue_of, issue_first, issue_others, last_most, late_tb, IssueTyped, IssueInRange}

-- THE LAYOUT of both systems, 40 bits: scale 1, UDRE 2, satellite 5, PRC 16, RRC 8, then 1 and 7 that are the system's own
abbrev pub widths : List ℕ
widths = 1 ∷ 2 ∷ 5 ∷ 16 ∷ 8 ∷ 1 ∷ 7 ∷ []

-- PRC and RRC are two's complement
abbrev pub meant : System → List ℕ → Correction
meant s vs = record {
  scale = get_or vs 0 0;
  udre = get_or vs 1 0;
  satellite = satellite_of (get_or vs 2 0);
  prc = signed 15 (get_or vs 3 0);
  rrc = signed 7 (get_or vs 4 0);
  issue = issue_of s (get_or vs 5 0) (get_or vs 6 0);
}

-- an entry's numbers, in the order of the fields
abbrev pub numbers : System → Correction → List ℕ
numbers s e = row (e.scale ∷ e.udre ∷ e.satellite ∷ code 15 e.prc ∷ code 7 e.rrc ∷ issue_first s e.issue ∷ issue_others s e.issue ∷ [])

-- what is sent of them, their low bits: satellite 32 is sent as 0
abbrev pub codes : System → Correction → List ℕ
codes s e = codes_of widths (numbers s e)

abbrev pub coding : System → Coding Correction
coding s = record { widths = widths; meant = meant s; codes = codes s }

-- the fill: 10101010 once per 8 bits
abbrev pub fill : ℕ
fill = 0xAAAAAA

-- REFUSAL 10: scale over 1, UDRE over 3, satellite not 1 to 32, the other system's issue, change over 1, tb over 119; any PRC, RRC, IOD may be sent
abbrev pub least : List ℕ
least = 0 ∷ 0 ∷ 1 ∷ []

abbrev pub most : System → List ℕ
most s = 1 ∷ 3 ∷ 32 ∷ 65535 ∷ 255 ∷ 1 ∷ last_most s ∷ []

abbrev pub out_of_range : System → Correction → Bool
out_of_range s e = row_out least (most s) (numbers s e)

-- ---- what the round trip says

-- what the types of the fields say of every entry; `mag z` is n for n and for -(n + 1), so -32768 and -128 are inside
pub record Typed (e : Correction) : Type 0 where
  pub prc : mag e.prc < 2 ^ 15
  pub rrc : mag e.rrc < 2 ^ 7
  pub issue : IssueTyped e.issue

-- IN RANGE: scale 0 or 1, UDRE 0 to 3, satellite 1 to 32, the system's own issue; any PRC and RRC of their types may be sent
pub record InRange (s : System) (e : Correction) : Type 0 where
  pub scale : e.scale ≤ 1
  pub udre : e.udre ≤ 3
  pub least : 1 ≤ e.satellite
  pub most : e.satellite ≤ 32
  pub issue : IssueInRange s e.issue

-- in the table's terms
abbrev pub says_correction_read : CorrectionRead → Says Correction
says_correction_read (read.Entry e) = answers e
says_correction_read (read.Refused n) = refuses n

-- THE LAYOUT: at most 18 entries; reading refuses with 10 too, which of what bits can say is a tb over 119
abbrev pub correction_layout : ListLayout
correction_layout = record {
  Entry = Correction;
  Read = CorrectionRead;
  refused = read.Refused;
  entry = read.Entry;
  says = says_correction_read;
  asked = layout.Correction;
  coding = coding;
  pattern = fill;
  most = 18;
  out = out_of_range;
  ranged = true;
  late = λ e. late_tb e.issue;
  Typed = Typed;
  InRange = InRange;
}

-- ---- the answers

-- COUNT: 5, 6, 7, 8
unfoldable pub count_corrections : Frame → Count
count_corrections = counted correction_layout

-- ENTRY: 5, 6, 7, 8, 9, 10
unfoldable pub correction_at : Frame → ℕ → CorrectionRead
correction_at = entry_at correction_layout

-- MAKING: 5, 6, 7, 12, 10
unfoldable pub make_corrections : Header → List Correction → ℕ → Made
make_corrections = made correction_layout

-- c corrections that can be sent, and a frame that holds c corrections: 1 to 18
abbrev pub SendableCorrections : Header → List Correction → ℕ → Correction → Type 0
SendableCorrections = SendableList correction_layout

abbrev pub HoldsCorrections : Frame → ℕ → Type 0
HoldsCorrections = HoldsList correction_layout
