-- The sender's side of the small-beacon profile: a list of corrections cut into frames of type 9, in order. Assumes nothing.
use Rattle.std.specs.Prelude.{◌≡◌, not, List, [], ◌∷◌, ◌++◌, map, ℕ, suc, ◌+◌, ◌*◌, ◌/◌, ◌%◌, ◌<◌, eqb, length, take, drop, get_or, replicate}
use Rattle.answer.specs.Order.{Says, refuses, answers, Check, in_order}
use Rattle.frame.specs.Frames.{blank}
use Rattle.frame.specs.Widths.{any_of, header_outside, late}
use Rattle.frame.specs.declared.Frame.{Frame}
use Rattle.frame.specs.declared.Header.{Header}
use Rattle.frame.specs.declared.System.TheVariants.{Gps}
use Rattle.record_fields.specs.Coding.{frame_with, Each}
use Rattle.record_stages.specs.declared.Count.TheVariants as count
use Rattle.record_stages.specs.Stages.{wrong_count}
use Rattle.record_corrections.specs.declared.Correction.{Correction}
use Rattle.record_corrections.specs.declared.CorrectionRead.TheVariants as read
use Rattle.record_corrections.specs.Corrections.{coding, fill, out_of_range, count_corrections, correction_at, SendableCorrections}
use Rattle.profile.specs.Profile.{repeated, most_satellites, listed, InProfile}
use Rattle.profile.specs.declared.Cut.{Cut}
use Rattle.profile.specs.declared.Cutting.{Cutting}
use Rattle.profile.specs.declared.Cutting.TheVariants as cutting

-- ---- the frames

-- the header of frame number i: its sequence is i more than the given one, modulo 8
abbrev pub rising : Header → ℕ → Header
rising h i = record { kind = h.kind; station = h.station; z = h.z; sequence = (h.sequence + i) % 8; state = h.state }

-- its corrections: three, fewer in the last frame
abbrev pub part : List Correction → ℕ → List Correction
part es i = take most_satellites (drop (most_satellites * i) es)

-- FRAME number i
unfoldable pub cut_frame : Header → List Correction → ℕ → Frame
cut_frame h es i = frame_with fill (coding Gps) (rising h i) (part es i)

-- HOW MANY: a third of the corrections, rounded up
abbrev pub frame_count : ℕ → ℕ
frame_count c = (c + 2) / most_satellites

-- the frames of a list, in order
abbrev pub cut_frames : Header → List Correction → List Frame
cut_frames h es = listed (cut_frame h es) (frame_count (length es)) 0

-- ---- the answer

abbrev pub satellites_of : List Correction → List ℕ
satellites_of es = map (λ e. e.satellite) es

-- CUTTING: 5, 6, 7, 12, 10, 22; the entries past the count are not looked at
abbrev pub cut_order : Header → List Correction → ℕ → List Check
cut_order h es c =
    (header_outside h, 5)
    ∷ (not (eqb h.kind 9), 6)
    ∷ (late h.z, 7)
    ∷ (wrong_count 18 c, 12)
    ∷ (any_of (out_of_range Gps) (take c es), 10)
    ∷ (repeated (satellites_of (take c es)), 22)
    ∷ []

-- what stands where there is no frame
unfoldable pub no_frames : List Frame
no_frames = replicate 6 blank

unfoldable pub refused_cut : ℕ → Cut
refused_cut n = record { answer = cutting.Refused n; frames = no_frames }

-- six in all: the frames, and blank ones behind them
unfoldable pub done_cut : List Frame → Cut
done_cut fs = record { answer = cutting.Frames (length fs); frames = fs ++ drop (length fs) no_frames }

unfoldable pub cut_corrections : Header → List Correction → ℕ → Cut
cut_corrections h es c = in_order (cut_order h es c) refused_cut (done_cut (cut_frames h (take c es)))

-- in the table's terms: the frames, or the number alone
abbrev pub says_cut : Cut → Says (List Frame)
says_cut u = by u.answer
  where
    by : Cutting → Says (List Frame)
    by (cutting.Frames n) = answers (take n u.frames)
    by (cutting.Refused n) = refuses n

-- ---- what can be cut, and what is said of the frames

-- A LIST THAT CAN BE CUT: c corrections that can be sent under a header of type 9, for different satellites
pub record Cuttable (h : Header) (es : List Correction) (c : ℕ) (d : Correction) : Type 0 where
  pub sendable : SendableCorrections h es c d
  pub kind : h.kind ≡ 9
  pub apart : (i j : ℕ) → i < j → j < c → (get_or es i d).satellite ≡ (get_or es j d).satellite → ⊥

-- of a frame these corrections are read: their number, and each by its own
pub record Reads (f : Frame) (es : List Correction) : Type 0 where
  pub counts : count_corrections f ≡ count.Of (length es)
  pub entries : (i : ℕ) (d : Correction) → i < length es → correction_at f i ≡ read.Entry (get_or es i d)

-- of frames, one after the other, these are read
pub data ReadsAll : List Frame → List Correction → Type 0 where
  end : ReadsAll [] []
  next : (f : Frame) (fs : List Frame) (first others : List Correction) → Reads f first → ReadsAll fs others → ReadsAll (f ∷ fs) (first ++ others)

-- CUT WELL: as many frames as it takes; their headers rise; three corrections in each but the last; read back they are the list; each frame
-- is of the profile
pub record CutWell (h : Header) (es : List Correction) (fs : List Frame) : Type 0 where
  pub number : length fs ≡ (length es + 2) / 3
  pub headers : (i : ℕ) → i < length fs → (get_or fs i blank).header ≡ rising h i
  pub threes : (i : ℕ) → suc i < length fs → count_corrections (get_or fs i blank) ≡ count.Of 3
  pub back : ReadsAll fs es
  pub inside : Each InProfile fs

-- the answer to cutting is frames, not a refusal, and this is said of them
pub record IsCut (u : Cut) (h : Header) (es : List Correction) : Type 0 where
  pub frames : List Frame
  pub done : u ≡ done_cut frames
  pub well : CutWell h es frames
