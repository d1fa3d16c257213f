-- Types 3 and 32: the layout as data, what its codes mean, and the answers in their orders. Assumes nothing.
use Rattle.std.specs.Prelude.{◌≡◌, Bool, ◌||◌, false, List, [], ◌∷◌, ℕ, ◌^◌, ◌<◌, ℤ, negsuc, get_or}
use Rattle.std.specs.Int.Signed.{lt_z, mag}
use Rattle.answer.specs.Order.{Says, refuses, answers, in_order}
use Rattle.bits.specs.Signed.{signed, code}
use Rattle.frame.specs.Widths.{outside}
use Rattle.frame.specs.declared.Header.{Header}
use Rattle.frame.specs.declared.Frame.{Frame}
use Rattle.frame.specs.declared.Layout.TheVariants as layout
use Rattle.record_fields.specs.Coding.{Coding, frame_bits, entry_in, frame_with}
use Rattle.record_stages.specs.declared.Made.{Made}
use Rattle.record_stages.specs.Stages.{wrong_size, read_order, make_order, refused_made, done_made, HeaderFor, FrameFor}
use Rattle.record_positions.specs.declared.Position.{Position}
use Rattle.record_positions.specs.declared.PositionRead.{PositionRead}
use Rattle.record_positions.specs.declared.PositionRead.TheVariants as read

-- THE LAYOUT, 96 bits: X, Y, Z, two's complement of 32 bits each
abbrev pub widths : List ℕ
widths = 32 ∷ 32 ∷ 32 ∷ []

abbrev pub meant : List ℕ → Position
meant vs = record { x = signed 31 (get_or vs 0 0); y = signed 31 (get_or vs 1 0); z = signed 31 (get_or vs 2 0) }

abbrev pub codes : Position → List ℕ
codes p = code 31 p.x ∷ code 31 p.y ∷ code 31 p.z ∷ []

abbrev pub coding : Coding Position
coding = record { widths = widths; meant = meant; codes = codes }

-- they end with a word: no bit is left to fill
abbrev pub fill : ℕ
fill = 0

-- REFUSAL 10: below -2147483647
unfoldable pub too_low : ℤ → Bool
too_low z = lt_z z (negsuc 2147483646)

unfoldable pub out_of_range : Position → Bool
out_of_range p = too_low p.x || too_low p.y || too_low p.z

-- ---- the answers

-- the position that the bits say
abbrev pub position_in : Frame → Position
position_in f = entry_in coding 0 (frame_bits f)

-- READING: 5, 6, 7, 8, 10
unfoldable pub read_position : Frame → PositionRead
read_position f =
    in_order (read_order layout.Position f (wrong_size 4 f.n) ((out_of_range (position_in f), 10) ∷ [])) read.Refused (read.At (position_in f))

-- MAKING: 5, 6, 7, 10
unfoldable pub make_position : Header → Position → Made
make_position h p = in_order (make_order layout.Position h ((out_of_range p, 10) ∷ [])) refused_made (done_made (frame_with fill coding h (p ∷ [])))

-- ---- in the table's terms

abbrev pub says_position_read : PositionRead → Says Position
says_position_read (read.At p) = answers p
says_position_read (read.Refused n) = refuses n

-- ---- what the round trip says

-- what the types of the fields say of every position; `mag z` is n for n and for -(n + 1), so -2147483648 is inside
pub record Typed (p : Position) : Type 0 where
  pub x : mag p.x < 2 ^ 31
  pub y : mag p.y < 2 ^ 31
  pub z : mag p.z < 2 ^ 31

-- A made frame reads back: its header, its position; it is within its widths, N is 4
pub record PositionMade (h : Header) (p : Position) (f : Frame) : Type 0 where
  pub header : f.header ≡ h
  pub inside : outside f ≡ false
  pub reads : read_position f ≡ read.At p
  pub n : f.n ≡ 4

-- -2147483648, outside the range
abbrev pub lowest : ℤ
lowest = negsuc 2147483647

-- IN RANGE: no coordinate is -2147483648
pub record InRange (p : Position) : Type 0 where
  pub x : p.x ≡ lowest → ⊥
  pub y : p.y ≡ lowest → ⊥
  pub z : p.z ≡ lowest → ⊥

-- A POSITION THAT CAN BE SENT
pub record SendablePosition (h : Header) (p : Position) : Type 0 where
  pub header : HeaderFor layout.Position h
  pub range : InRange p

-- A FRAME THAT HOLDS A POSITION: it is for the layout, N is 4, and no coordinate that its bits say is -2147483648
pub record HoldsPosition (f : Frame) : Type 0 where
  pub frame : FrameFor layout.Position f
  pub n : f.n ≡ 4
  pub range : InRange (position_in f)
