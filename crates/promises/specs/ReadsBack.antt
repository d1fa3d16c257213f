-- From the record to the line and back, in the table's terms: every record that can be sent is made, the frame is written, and what stands on the
-- line reads back equal. A maker, a writer or a reader that refuses what can be sent does not have it. Assumes nothing.
use Rattle.std.specs.Prelude.{◌≡◌, Bool, false, List, ◌++◌, ℕ, ◌+◌, ◌*◌, ◌/◌, ◌≤◌, ◌<◌, length, take, drop, get_or}
use Rattle.answer.specs.Order.{Says, answers}
use Rattle.bits.specs.Rows.{FillAfter}
use Rattle.frame.specs.Widths.{outside}
use Rattle.frame.specs.declared.Header.{Header}
use Rattle.frame.specs.declared.Frame.{Frame}
use Rattle.stream.specs.Standing.{frame_at}
use Rattle.record_fields.specs.Coding.{frame_bits, Each}
use Rattle.record_stages.specs.declared.Made.{Made}
use Rattle.record_observations.specs.declared.Edition.{Edition}
use Rattle.record_observations.specs.declared.Epoch.{Epoch}
use Rattle.record_observations.specs.declared.Observation.{Observation}
use Rattle.record_positions.specs.declared.Position.{Position}
use Rattle.record_stages.specs.Stages.{says_count, says_made}
use Rattle.record_stages.specs.Lists.{ListLayout, width_of, counted, entry_at, made, SendableList}
use Rattle.record_observations.specs.Observations.{count_observations, read_epoch, observation_at, make_observations, says_epoch_read, says_observation_read}
use Rattle.record_observations.specs.Observations.{SendableObservations}
use Rattle.record_observations.specs.Observations as observations
use Rattle.record_generals.specs.declared.GeneralHead.{GeneralHead}
use Rattle.record_generals.specs.declared.General.{General}
use Rattle.record_generals.specs.Generals.{make_generals}
use Rattle.record_generals.specs.GeneralRounds.{SendableGenerals}
use Rattle.record_generals.specs.GeneralNulls.{make_general_null, SendableGeneralNull}
use Rattle.record_positions.specs.Positions.{read_position, make_position, says_position_read, SendablePosition}
use Rattle.record_positions.specs.Positions as positions
use Rattle.record_nulls.specs.Nulls.{read_null, make_null, says_null_read, SendableNull}
use Rattle.record_nulls.specs.Nulls as nulls
use Rattle.record_texts.specs.Texts.{read_text, buffer_after, make_text, SendableText}
use Rattle.writer.specs.Answer.{written_by, written_to, says_written}
use Rattle.writer.specs.OneFrame.{line_after, Wrote}
use Rattle.frame.specs.declared.Carried.{Carried}
use Rattle.promises.specs.RecordLayouts.{EachList}
use Rattle.promises.specs.GeneralsBack.{GeneralsBack, GeneralNullBack}

-- ---- WHAT READS BACK of a frame: its header and its record; it is within its widths, N is worked out, the fill is standard

-- a list of entries of so many bits: the count and every entry
pub record ListBack {A : Type 0} (count : Frame → Says ℕ) (entry : Frame → ℕ → Says A) (width pattern : ℕ)
    (h : Header) (es : List A) (c : ℕ) (d : A) (f : Frame) : Type 0 where
  pub header : f.header ≡ h
  pub inside : outside f ≡ false
  pub counted : count f ≡ answers c
  pub each : (i : ℕ) → i < c → entry f i ≡ answers (get_or es i d)
  pub n : f.n ≡ (c * width + 23) / 24
  pub fill : FillAfter pattern (c * width) (frame_bits f)

abbrev pub PlainBack : (L : ListLayout) → Header → List L.Entry → ℕ → L.Entry → Frame → Type 0
PlainBack L h = ListBack (λ f. says_count (counted L f)) (λ f i. L.says (entry_at L f i)) (width_of L h) L.pattern h

-- a head and satellites, read in the edition in which they were made; there is no fill
pub record ObservationsBack (e : Edition) (h : Header) (a : Epoch) (os : List Observation) (c : ℕ) (d : Observation) (f : Frame) : Type 0 where
  pub header : f.header ≡ h
  pub inside : outside f ≡ false
  pub counted : says_count (count_observations f) ≡ answers c
  pub epoch : says_epoch_read (read_epoch f) ≡ answers a
  pub each : (i : ℕ) → i < c → says_observation_read (observation_at e f i) ≡ answers (get_or os i d)
  pub n : f.n ≡ 2 * c + 1

pub record PositionBack (h : Header) (p : Position) (f : Frame) : Type 0 where
  pub header : f.header ≡ h
  pub inside : outside f ≡ false
  pub reads : says_position_read (read_position f) ≡ answers p
  pub n : f.n ≡ 4

-- the wanted N, and that many words of fill
pub record NullBack (h : Header) (wanted : ℕ) (f : Frame) : Type 0 where
  pub header : f.header ≡ h
  pub inside : outside f ≡ false
  pub reads : says_null_read (read_null f) ≡ answers wanted
  pub n : f.n ≡ wanted
  pub fill : nulls.StandardFill f

-- the characters, into every buffer with room for them
pub record TextBack (h : Header) (t : List ℕ) (f : Frame) : Type 0 where
  pub header : f.header ≡ h
  pub inside : outside f ≡ false
  pub reads : (buffer : List ℕ) → length t ≤ length buffer → says_count (read_text f buffer) ≡ answers (length t)
  pub writes : (buffer : List ℕ) → length t ≤ length buffer → buffer_after f buffer ≡ t ++ drop (length t) buffer
  pub n : f.n ≡ (length t * 8 + 23) / 24
  pub fill : FillAfter 0 (length t * 8) (frame_bits f)

-- MADE, WRITTEN AND READ: m is the answer to making, c the carried pair; `Reads` says of a frame that it reads back as the record
pub record WrittenAndRead (m : Made) (Reads : Frame → Type 0) (c : Carried) (buffer : List ℕ) : Type 0 where
  -- a frame is made, not refused
  pub frame : Frame
  pub made : says_made m ≡ answers frame
  pub reads : Reads frame
  -- it is written, not refused: so many bytes, and the pair carried on
  pub count : ℕ
  pub on : Carried
  pub answer : says_written (written_by frame c buffer) ≡ answers (count, on)
  pub wrote : Wrote frame c buffer count on
  -- whatever follows on the line, the frame that stands there reads back
  pub back : (rest : List Bool) → Reads (frame_at (line_after c (take count (written_to frame c buffer)) rest))

-- after every pair of bits that are 0 or 1, into every buffer with room for the longest frame, 5(31 + 2) bytes
abbrev pub ReadsBack : Made → (Frame → Type 0) → Type 0
ReadsBack m Reads = (c : Carried) (buffer : List ℕ) → c.d29 ≤ 1 → c.d30 ≤ 1 → 165 ≤ length buffer → WrittenAndRead m Reads c buffer

-- every list of a plain list layout that can be sent
abbrev pub ListSent : ListLayout → Type 0
ListSent L =
    (h : Header) (es : List L.Entry) (c : ℕ) (d : L.Entry) → Each L.Typed (take c es) → SendableList L h es c d
    → ReadsBack (made L h es c) (PlainBack L h es c d)

-- EVERY RECORD THAT CAN BE SENT; `Typed` is what the types of the fields say
pub record WhatCanBeSent : Type 0 where
  pub lists : EachList ListSent
  -- types 18 and 19, in each edition
  pub observations : (e : Edition) (h : Header) (a : Epoch) (os : List Observation) (c : ℕ) (d : Observation) → Each observations.Typed (take c os)
      → SendableObservations e h a os c d → ReadsBack (make_observations e h a os c) (ObservationsBack e h a os c d)
  -- types 41 and 42
  pub generals : (h : Header) (a : GeneralHead) (gs : List General) (c : ℕ) (d : General) → SendableGenerals h a gs c d
      → ReadsBack (make_generals h a gs c) (GeneralsBack h a gs c d)
  -- type 42, the null frame
  pub general-null : (h : Header) (n s : ℕ) → SendableGeneralNull h n s → ReadsBack (make_general_null h n s) (GeneralNullBack h n s)
  -- types 3 and 32
  pub position : (h : Header) (p : Position) → positions.Typed p → SendablePosition h p → ReadsBack (make_position h p) (PositionBack h p)
  -- types 6 and 34
  pub null : (h : Header) (n : ℕ) → SendableNull h n → ReadsBack (make_null h n) (NullBack h n)
  -- types 16 and 36
  pub text : (h : Header) (t : List ℕ) → SendableText h t → ReadsBack (make_text h t) (TextBack h t)
