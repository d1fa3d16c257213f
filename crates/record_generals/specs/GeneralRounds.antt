-- Which general corrections can be sent, what a made frame reads as, and what is read of a frame that holds some. Assumes nothing.
use Rattle.std.specs.Prelude.{◌≡◌, false, List, ℕ, ◌+◌, ◌*◌, ◌/◌, ◌^◌, ◌≤◌, ◌<◌, length, get_or}
use Rattle.std.specs.Int.Signed.{mag}
use Rattle.bits.specs.Rows.{FillAfter}
use Rattle.frame.specs.Widths.{outside}
use Rattle.frame.specs.declared.Header.{Header}
use Rattle.frame.specs.declared.Frame.{Frame}
use Rattle.frame.specs.declared.Layout.TheVariants as layout
use Rattle.record_fields.specs.Coding.{frame_bits}
use Rattle.record_stages.specs.declared.Count.TheVariants as count
use Rattle.record_stages.specs.Stages.{HeaderFor, FrameFor}
use Rattle.record_stages.specs.Lists.{held_to}
use Rattle.record_generals.specs.declared.GeneralHead.{GeneralHead}
use Rattle.record_generals.specs.declared.General.{General}
use Rattle.record_generals.specs.declared.HeadRead.TheVariants as head
use Rattle.record_generals.specs.declared.GeneralRead.TheVariants as read
use Rattle.record_generals.specs.Generals.{other_system, head_in, delay_width, delay_in, most_generals, fill, no_satellite, general_in}
use Rattle.record_generals.specs.Generals.{count_generals, read_head, general_at}

-- IN RANGE: a system of the four, every other number within its width
pub record HeadInRange (a : GeneralHead) : Type 0 where
  pub system : other_system a.system ≡ false
  pub signal : a.signal ≤ 15
  pub ephemeris : a.ephemeris ≤ 3
  pub period : a.period ≤ 3
  pub ionosphere : a.ionosphere ≤ 1

-- satellite 1 to 63, UDRE 0 to 15, IOD 0 to 255, PRC in 14 bits, delay in d bits
pub record InRange (d : ℕ) (g : General) : Type 0 where
  pub least : 1 ≤ g.satellite
  pub most : g.satellite ≤ 63
  pub udre : g.udre ≤ 15
  pub iod : g.iod ≤ 255
  pub prc : mag g.prc < 2 ^ 13
  pub delay : g.delay < 2 ^ d

-- A RECORD THAT CAN BE SENT: its header is for the layout, its head in range; 1 to 22 or 16 satellites, all of them there, each in its range
pub record SendableGenerals (h : Header) (a : GeneralHead) (gs : List General) (c : ℕ) (d : General) : Type 0 where
  pub header : HeaderFor layout.General h
  pub head : HeadInRange a
  pub some : 1 ≤ c
  pub few : c ≤ most_generals (delay_width a.ionosphere)
  pub there : c ≤ length gs
  pub ranges : (i : ℕ) → i < c → InRange (delay_width a.ionosphere) (get_or gs i d)

-- the bits of a head and of c satellites, and the words that they take
abbrev pub general_bits : GeneralHead → ℕ → ℕ
general_bits a c = 13 + c * (32 + delay_width a.ionosphere)

abbrev pub general_words : GeneralHead → ℕ → ℕ
general_words a c = (general_bits a c + 23) / 24

-- a made frame reads back: header, head, count, every satellite; it is within its widths, N is worked out, its fill is standard
pub record GeneralsMade (h : Header) (a : GeneralHead) (gs : List General) (c : ℕ) (d : General) (f : Frame) : Type 0 where
  pub header : f.header ≡ h
  pub inside : outside f ≡ false
  pub counts : count_generals f ≡ count.Of c
  pub head : read_head f ≡ head.Head a
  pub entries : (i : ℕ) → i < c → general_at f i ≡ read.Entry (get_or gs i d)
  pub n : f.n ≡ general_words a c
  pub fill : FillAfter fill (general_bits a c) (frame_bits f)

-- A FRAME THAT HOLDS c satellites: it is for the layout, of a system of the four; c is 1 to 22 or 16, N is the words that they take
pub record HoldsGenerals (f : Frame) (c : ℕ) : Type 0 where
  pub frame : FrameFor layout.General f
  pub system : other_system (head_in f).system ≡ false
  pub some : 1 ≤ c
  pub few : c ≤ most_generals (delay_in f)
  pub n : f.n ≡ general_words (head_in f) c

-- what is read of it: its count, its head, and each satellite, or 10 where its number is 0
pub record ReadsGenerals (f : Frame) (c : ℕ) : Type 0 where
  pub counts : count_generals f ≡ count.Of c
  pub head : read_head f ≡ head.Head (head_in f)
  pub entries : (i : ℕ) → i < c → general_at f i ≡ held_to no_satellite read.Refused read.Entry (general_in f i)
