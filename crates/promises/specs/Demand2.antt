-- DEMAND 2, sentence by sentence: the papers' frames, parity and records are in ThoseOfRtcm; here a record that is written and read, and a frame that
-- is read, made anew and written. Assumes nothing.
use Rattle.std.specs.Prelude.{◌≡◌, Bool, false, cond, List, ◌++◌, ◌↔◌, ℕ, ◌+◌, ◌*◌, ◌≤◌, ◌<◌, eqb, length, take, drop, get_or}
use Rattle.answer.specs.Order.{refuses, answers}
use Rattle.bits.specs.Fields.{AreBytes}
use Rattle.bits.specs.Rows.{FillAfter}
use Rattle.line.specs.Line.{line_bits}
use Rattle.frame.specs.Frames.{after_pair, bare}
use Rattle.frame.specs.declared.Header.{Header}
use Rattle.frame.specs.declared.Carried.{Carried}
use Rattle.frame.specs.declared.Frame.{Frame}
use Rattle.frame.specs.declared.Layout.TheVariants as layout
use Rattle.frame.specs.Widths.{any_of, pair_outside, outside}
use Rattle.stream.specs.Standing.{size, Stands, pair_before, frame_at}
use Rattle.record_fields.specs.Coding.{frame_bits, Each}
use Rattle.record_stages.specs.declared.Made.{Made}
use Rattle.record_observations.specs.declared.Edition.{Edition}
use Rattle.record_observations.specs.declared.Epoch.{Epoch}
use Rattle.record_observations.specs.declared.Observation.{Observation}
use Rattle.record_positions.specs.declared.Position.{Position}
use Rattle.record_stages.specs.Stages.{other_layout, says_count, says_made}
use Rattle.record_stages.specs.Lists.{ListLayout, said_at, counted, entry_at, made, StandardFill, HoldsList}
use Rattle.record_observations.specs.Editions.{quantity_of}
use Rattle.record_observations.specs.Observations.{count_observations, read_epoch, observation_at, make_observations, says_epoch_read, says_observation_read}
use Rattle.record_observations.specs.Observations.{HoldsObservations, epoch_in, late_time, satellite_in, retold_read}
use Rattle.record_observations.specs.Observations as observations
use Rattle.record_generals.specs.declared.GeneralHead.{GeneralHead}
use Rattle.record_generals.specs.declared.General.{General}
use Rattle.record_generals.specs.Generals.{count_generals, read_head, general_at, make_generals, head_in, general_in, no_satellite, says_head_read, says_general_read}
use Rattle.record_generals.specs.GeneralRounds.{HoldsGenerals, general_bits}
use Rattle.record_generals.specs.GeneralNulls.{read_general_null, make_general_null, system_in, says_general_null_read, HoldsGeneralNull}
use Rattle.record_positions.specs.Positions.{read_position, make_position, position_in, says_position_read, HoldsPosition}
use Rattle.record_positions.specs.Positions as positions
use Rattle.record_nulls.specs.Nulls.{read_null, make_null, says_null_read, HoldsNull}
use Rattle.record_nulls.specs.Nulls as nulls
use Rattle.record_texts.specs.Texts.{text_in, read_text, buffer_after, make_text, HoldsText}
use Rattle.journal.specs.Journal.{kept_by, held_by, recalled_by, says_kept, says_recalled}
use Rattle.writer.specs.Sending.{carried_on}
use Rattle.writer.specs.Answer.{written_by, written_to, says_written}
use Rattle.writer.specs.OneFrame.{its_bits}
use Rattle.promises.specs.RecordLayouts.{record_types, PlainList, list_of, EachList}
use Rattle.promises.specs.ThoseOfRtcm.{GpsParityRule, FramesOfRtcm, RecordsOfRtcm}
use Rattle.promises.specs.GeneralsOfRtcm.{GeneralsOfRtcm}
use Rattle.promises.specs.GeneralsBack.{GeneralsBack, GeneralNullBack}
use Rattle.promises.specs.ReadsBack.{PlainBack, ObservationsBack, PositionBack, NullBack, TextBack, WhatCanBeSent}

-- a plain list layout: which frames have a count, and what is said of each entry below it
pub record ListIsRead (L : ListLayout) : Type 0 where
  pub count : (f : Frame) (c : ℕ) → (says_count (counted L f) ≡ answers c) ↔ HoldsList L f c
  pub entry : (f : Frame) (c i : ℕ) → HoldsList L f c → i < c
      → let e = said_at L f i in L.says (entry_at L f i) ≡ cond (L.late e) (refuses 10) (answers e)

-- WHICH FRAMES ARE READ, whatever their fill: those that are for the layout with exactly these N; and what is read is what their bits say, or 10
-- for a correction whose tb is over 119, for observations whose time is over 599999, and for satellite 0 of types 41 and 42
pub record WhatIsRead : Type 0 where
  -- a type number has a layout other than plain exactly when it is one of those that have a record
  pub types : (kind : ℕ) → other_layout layout.Plain kind ≡ any_of (eqb kind) record_types
  pub lists : EachList ListIsRead
  pub observations : (f : Frame) (c : ℕ) → (says_count (count_observations f) ≡ answers c) ↔ HoldsObservations f c
  pub epoch : (f : Frame) (c : ℕ) → HoldsObservations f c
      → says_epoch_read (read_epoch f) ≡ cond (late_time (epoch_in f)) (refuses 10) (answers (epoch_in f))
  pub observation : (e : Edition) (f : Frame) (c i : ℕ) → HoldsObservations f c → i < c
      → says_observation_read (observation_at e f i) ≡ cond (late_time (epoch_in f)) (refuses 10) (answers (satellite_in e f i))
  -- the editions: what one reads of any frame is what the other reads, with the first bit told anew; the refusals are equal
  pub told-anew : (e other : Edition) (f : Frame) (i : ℕ) → observation_at e f i ≡ retold_read e (quantity_of f.header.kind) (observation_at other f i)
  pub generals : (f : Frame) (c : ℕ) → (says_count (count_generals f) ≡ answers c) ↔ HoldsGenerals f c
  pub head : (f : Frame) (c : ℕ) → HoldsGenerals f c → says_head_read (read_head f) ≡ answers (head_in f)
  pub general : (f : Frame) (c i : ℕ) → HoldsGenerals f c → i < c
      → says_general_read (general_at f i) ≡ cond (no_satellite (general_in f i)) (refuses 10) (answers (general_in f i))
  pub general-null : (f : Frame) (n s : ℕ)
      → (says_general_null_read (read_general_null f) ≡ answers (n, s)) ↔ (HoldsGeneralNull f × ((f.n ≡ n) × (system_in f ≡ s)))
  pub position : (f : Frame) (p : Position) → (says_position_read (read_position f) ≡ answers p) ↔ (HoldsPosition f × (position_in f ≡ p))
  pub null : (f : Frame) (n : ℕ) → (says_null_read (read_null f) ≡ answers n) ↔ (HoldsNull f × (f.n ≡ n))
  -- a text with its closing zeros, into every buffer with room for its characters
  pub text : (f : Frame) (t : List ℕ) (zeros : ℕ) (buffer : List ℕ) → HoldsText f t zeros → length t ≤ length buffer
      → (says_count (read_text f buffer) ≡ answers (length t)) × (buffer_after f buffer ≡ t ++ drop (length t) buffer)
  pub no_other : (f : Frame) (buffer : List ℕ) (c : ℕ) → says_count (read_text f buffer) ≡ answers c
      → ((zeros : ℕ) × HoldsText f (text_in f) zeros) × (length (text_in f) ≡ c)

-- a plain list that is made reads back
abbrev pub ListReadsBack : ListLayout → Type 0
ListReadsBack L =
    (h : Header) (es : List L.Entry) (c : ℕ) (d : L.Entry) (f : Frame) → length es ≡ L.most → Each L.Typed es
    → says_made (made L h es c) ≡ answers f → PlainBack L h es c d f

-- "A record we write reads back equal": header, count and every entry, within the widths, N worked out, standard fill. An array of entries has the
-- most that its type allows; `Typed` is what the types of the fields say.
pub record ReadsBackEqual : Type 0 where
  pub lists : EachList ListReadsBack
  pub observations : (e : Edition) (h : Header) (a : Epoch) (os : List Observation) (c : ℕ) (d : Observation) (f : Frame) → length os ≡ 15
      → Each observations.Typed os → says_made (make_observations e h a os c) ≡ answers f → ObservationsBack e h a os c d f
  pub generals : (h : Header) (a : GeneralHead) (gs : List General) (c : ℕ) (d : General) (f : Frame) → length gs ≡ 22
      → says_made (make_generals h a gs c) ≡ answers f → GeneralsBack h a gs c d f
  pub general-null : (h : Header) (n s : ℕ) (f : Frame) → says_made (make_general_null h n s) ≡ answers f → GeneralNullBack h n s f
  pub position : (h : Header) (p : Position) (f : Frame) → positions.Typed p → says_made (make_position h p) ≡ answers f → PositionBack h p f
  pub null : (h : Header) (n : ℕ) (f : Frame) → says_made (make_null h n) ≡ answers f → NullBack h n f
  pub text : (h : Header) (t : List ℕ) (f : Frame) → says_made (make_text h t) ≡ answers f → TextBack h t f
  -- the journal: a frame that is kept is recalled with its length, all but its pair, whatever follows
  pub recalled : (f : Frame) (buffer rest : List ℕ) (k : ℕ) → length f.words ≡ 31 → says_kept (kept_by f buffer) ≡ answers k
      → (k ≡ 3 * f.n + 9) × (says_recalled (recalled_by (take k (held_by f buffer) ++ rest)) ≡ answers (k, bare f))
  -- and every byte of a record that is recalled is kept again
  pub kept_again : (bs : List ℕ) (f : Frame) (k : ℕ) (buffer : List ℕ) → AreBytes bs → says_recalled (recalled_by bs) ≡ answers (k, f)
      → k ≤ length buffer → (says_kept (kept_by f buffer) ≡ answers k) × (held_by f buffer ≡ take k bs ++ drop k buffer)

-- ---- "A frame whose record we can read, with standard fill, made anew from its header and that record and written after the same two carried bits,
-- gives its own bits"

-- THE RECORD OF f IS READ, and m is the answer to making it anew under the same header
pub data Remade (f : Frame) (m : Made) : Type 0 where
  -- a plain list: the count and every entry, with standard fill
  of_list : (l : PlainList) (es : List (list_of l).Entry) (c : ℕ) (d : (list_of l).Entry) → c ≤ length es → says_count (counted (list_of l) f) ≡ answers c
      → ((i : ℕ) → i < c → (list_of l).says (entry_at (list_of l) f i) ≡ answers (get_or es i d)) → StandardFill (list_of l) f c
      → m ≡ made (list_of l) f.header es c → Remade f m
  -- types 18 and 19, read and made in one edition: the count, the head and every satellite
  of_observations : (e : Edition) (a : Epoch) (os : List Observation) (c : ℕ) (d : Observation) → c ≤ length os → says_count (count_observations f) ≡ answers c
      → says_epoch_read (read_epoch f) ≡ answers a → ((i : ℕ) → i < c → says_observation_read (observation_at e f i) ≡ answers (get_or os i d))
      → m ≡ make_observations e f.header a os c → Remade f m
  -- types 41 and 42: the count, the head and every satellite, with standard fill
  of_generals : (a : GeneralHead) (gs : List General) (c : ℕ) (d : General) → c ≤ length gs → says_count (count_generals f) ≡ answers c
      → says_head_read (read_head f) ≡ answers a → ((i : ℕ) → i < c → says_general_read (general_at f i) ≡ answers (get_or gs i d))
      → FillAfter 0xAAAAAA (general_bits a c) (frame_bits f) → m ≡ make_generals f.header a gs c → Remade f m
  -- type 42, the null frame: N and the system, with standard fill
  of_general_null : (n s : ℕ) → says_general_null_read (read_general_null f) ≡ answers (n, s) → FillAfter 0xAAAAAA 4 (frame_bits f)
      → m ≡ make_general_null f.header n s → Remade f m
  of_position : (p : Position) → says_position_read (read_position f) ≡ answers p → m ≡ make_position f.header p → Remade f m
  -- types 6 and 34: N, with standard fill
  of_null : (n : ℕ) → says_null_read (read_null f) ≡ answers n → nulls.StandardFill f → m ≡ make_null f.header n → Remade f m
  -- types 16 and 36: the characters that the reader left in the buffer
  of_text : (buffer : List ℕ) (c : ℕ) → says_count (read_text f buffer) ≡ answers c → m ≡ make_text f.header (take c (buffer_after f buffer)) → Remade f m

-- MADE ANEW AND WRITTEN: d is the stream from two bits before the frame; m, written after these two bits, gives its own bits and carries on its last two
pub record WritesItsBits (d : List Bool) (m : Made) (buffer : List ℕ) : Type 0 where
  pub frame : Frame
  pub made : says_made m ≡ answers frame
  pub answer : says_written (written_by frame (pair_before d) buffer) ≡ answers (5 * size d, carried_on (its_bits d))
  pub bits : line_bits (take (5 * size d) (written_to frame (pair_before d) buffer)) ≡ its_bits d

-- made anew it is the same frame, all but its pair
abbrev pub MadeAnew : Type 0
MadeAnew = (f : Frame) (m : Made) → length f.words ≡ 31 → Remade f m → says_made m ≡ answers (bare f)

-- and where it stands, it gives its own bits, if the buffer has room for them
abbrev pub ItsOwnBits : Type 0
ItsOwnBits = (d : List Bool) → Stands d → (m : Made) → Remade (frame_at d) m → (buffer : List ℕ) → 5 * size d ≤ length buffer → WritesItsBits d m buffer

-- ---- the carried pair of a frame

-- writer and journal do not look at which of the four it is; a frame made and one recalled have 00
pub record PairBeside : Type 0 where
  pub written : (k : Carried) (f : Frame) (c : Carried) (buffer : List ℕ) → pair_outside k ≡ false → outside f ≡ false
      → (written_by (after_pair k f) c buffer ≡ written_by f c buffer) × (written_to (after_pair k f) c buffer ≡ written_to f c buffer)
  pub kept : (k : Carried) (f : Frame) (buffer : List ℕ) → pair_outside k ≡ false → outside f ≡ false
      → (kept_by (after_pair k f) buffer ≡ kept_by f buffer) × (held_by (after_pair k f) buffer ≡ held_by f buffer)
  pub lists : EachList (λ L. (h : Header) (es : List L.Entry) (c : ℕ) (f : Frame) → says_made (made L h es c) ≡ answers f → bare f ≡ f)
  pub observations : (e : Edition) (h : Header) (a : Epoch) (os : List Observation) (c : ℕ) (f : Frame) → says_made (make_observations e h a os c) ≡ answers f
      → bare f ≡ f
  pub generals : (h : Header) (a : GeneralHead) (gs : List General) (c : ℕ) (f : Frame) → says_made (make_generals h a gs c) ≡ answers f → bare f ≡ f
  pub general-null : (h : Header) (n s : ℕ) (f : Frame) → says_made (make_general_null h n s) ≡ answers f → bare f ≡ f
  pub position : (h : Header) (p : Position) (f : Frame) → says_made (make_position h p) ≡ answers f → bare f ≡ f
  pub null : (h : Header) (n : ℕ) (f : Frame) → says_made (make_null h n) ≡ answers f → bare f ≡ f
  pub text : (h : Header) (t : List ℕ) (f : Frame) → says_made (make_text h t) ≡ answers f → bare f ≡ f
  pub recalled : (bs : List ℕ) (f : Frame) (k : ℕ) → AreBytes bs → says_recalled (recalled_by bs) ≡ answers (k, f) → bare f ≡ f

-- ---- THE DEMAND
pub record Demand2 : Type 0 where
  -- "Frames, parity and records are those of RTCM 10402 and the GPS parity rule as our papers condense them."
  pub parity : GpsParityRule
  pub frames : FramesOfRtcm
  pub records : RecordsOfRtcm
  pub generals : GeneralsOfRtcm
  pub read : WhatIsRead
  -- "A record we write reads back equal."
  pub sent : WhatCanBeSent
  pub reads-back : ReadsBackEqual
  pub pair : PairBeside
  -- "A frame whose record we can read, with standard fill, made anew from its header and that record .."
  pub made-anew : MadeAnew
  -- ".. and written after the same two carried bits, gives its own bits."
  pub own_bits : ItsOwnBits
