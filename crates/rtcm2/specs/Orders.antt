-- The refusals of each call in the order that include/rtcm2.h gives: whether each applies, and its number. Assumes nothing.
use Rattle.std.specs.Prelude.{Bool, not, ◌||◌, List, [], ◌∷◌, ◌++◌, ℕ, ◌+◌, ◌*◌, ◌/◌, ◌%◌, ltb, leb, eqb, length, take, replicate}
use Rattle.answer.specs.Order.{Check}
use Rattle.frame.specs.Frames.{after_pair, framed, frame_of}
use Rattle.frame.specs.Header.{state_of}
use Rattle.frame.specs.Layout.{system_of}
use Rattle.frame.specs.Widths.{any_of, header_outside, pair_outside, late}
use Rattle.frame.specs.declared.Frame.{Frame}
use Rattle.frame.specs.declared.Header.{Header}
use Rattle.frame.specs.declared.Layout.{Layout}
use Rattle.frame.specs.declared.Layout.TheVariants as layout
use Rattle.frame.specs.declared.System.{System}
use Rattle.frame.specs.declared.System.TheVariants.{Gps}
use Rattle.stream.specs.Standing.{frame_at}
use Rattle.reader.specs.Reading.{bits_of, past, frame_waits}
use Rattle.journal.specs.Bytes.{words_from}
use Rattle.journal.specs.Forms.{words_after}
use Rattle.journal.specs.Journal.{recall_order}
use Rattle.journal.specs.Words.{pair_numbered, carried_in, data_in, recall_words_order}
use Rattle.writer.specs.Sending.{line_length}
use Rattle.record_fields.specs.Coding.{frame_with, frame_after}
use Rattle.record_stages.specs.Stages.{wrong_count, other_layout, held_after, misfit_after, wrong_size, make_order}
use Rattle.record_positions.specs.Positions as position
use Rattle.record_nulls.specs.Nulls as null
use Rattle.record_texts.specs.Texts as text
use Rattle.record_observations.specs.Observations as observation
use Rattle.record_observations.specs.Editions.{quantity_of}
use Rattle.record_observations.specs.declared.Epoch.{Epoch}
use Rattle.record_observations.specs.declared.Observation.{Observation}
use Rattle.record_positions.specs.declared.Position.{Position}
use Rattle.profile.specs.Profile.{type_order}
use Rattle.profile.specs.Cutting.{cut_frames, cut_order}
use Rattle.rtcm2_state.specs.State.{state_size, holds_state, state_in}
use Rattle.rtcm2_rows.specs.Rows.{row_size, count_of, entries_from}
use Rattle.rtcm2_rows.specs.Corrections as correction-bytes
use Rattle.rtcm2.specs.Send.{pair_of}
use Rattle.rtcm2_rows.specs.Observations as observation-bytes
use Rattle.rtcm2.specs.Observations.{edition_named}
use Rattle.rtcm2.specs.Beacon.{records_of}

-- ---- reading the line

-- START: 13
abbrev pub started_order : List ℕ → List Check
started_order state = (ltb (length state) state_size, 13) ∷ []

-- A CALL OF THE READER: 5 for bytes that hold no state, then the call's own
abbrev pub held_order : List ℕ → List Check → List Check
held_order state own = (not (holds_state state), 5) ∷ own

-- 13: a frame's record is longer than the bytes lent for it
abbrev pub short_for : Frame → List ℕ → Check
short_for f buffer = (ltb (length buffer) (3 * f.n + 9), 13)

-- TAKE: 5, 4, 13
abbrev pub take_order : List ℕ → List ℕ → List Check
take_order state frame =
    let r = state_in state in
    held_order state ((past r, 5) ∷ (not (frame_waits r), 4) ∷ short_for (frame_at (bits_of r)) frame ∷ [])

-- ---- a frame comes in: 14, 15, 16, 15, 16, and no 5 for the frame

-- the frame of the words in a record
abbrev pub frame_from : List ℕ → Frame
frame_from bs = frame_of (words_after 3 bs)

-- the system of its type
abbrev pub system_from : List ℕ → System
system_from bs = system_of (frame_from bs).header.kind

-- WRITE: then 5 for either carried bit, 7, 13
abbrev pub write_order : List ℕ → ℕ → ℕ → List ℕ → List Check
write_order bs d29 d30 line =
    recall_order bs
    ++ ((ltb 1 d29, 5) ∷ (ltb 1 d30, 5) ∷ (late (frame_from bs).header.z, 7) ∷ (ltb (length line) (line_length (frame_from bs)), 13) ∷ [])

-- KEEP WORDS: then 5 for either carried bit, 13
abbrev pub keep_words_order : List ℕ → ℕ → ℕ → List ℕ → List Check
keep_words_order bs d29 d30 words =
    recall_order bs ++ ((pair_outside (pair_of d29 d30), 5) ∷ (ltb (length words) (4 * (frame_from bs).n + 11), 13) ∷ [])

-- the frame of the words in a record, after its own pair
abbrev pub live_from : List ℕ → Frame
live_from bs = after_pair (pair_numbered (carried_in (words_after 4 bs))) (frame_of (data_in (words_after 4 bs)))

-- RECALL WORDS: 14, 15, 16, 15, 16, 17, then 13
abbrev pub restore_order : List ℕ → List ℕ → List Check
restore_order words frame = recall_words_order words ++ (short_for (live_from words) frame ∷ [])

-- A RECORD OF A LAYOUT: 6, 7, 8, then its own
abbrev pub record_checks : Layout → Frame → Bool → List Check → List Check
record_checks asked f wrong_n more = (other_layout asked f.header.kind, 6) ∷ (late f.header.z, 7) ∷ (wrong_n, 8) ∷ more

-- observations have a head of 24 bits, and 48 a satellite: 6, 7, 8, then their own
abbrev pub observation_checks : Frame → List Check → List Check
observation_checks f more = record_checks layout.Observation f (misfit_after 24 48 f.n) more

-- 10 for the time of the head
abbrev pub late_checks : Frame → List Check
late_checks f = (observation.late_time (observation.epoch_in f), 10) ∷ []

-- their count: then 6, 7, 8; the head: then 6, 7, 8, 10
abbrev pub observations_counted : List ℕ → List Check
observations_counted bs = recall_order bs ++ observation_checks (frame_from bs) []

abbrev pub epoch_order : List ℕ → List Check
epoch_order bs = recall_order bs ++ observation_checks (frame_from bs) (late_checks (frame_from bs))

-- a satellite: then 5 for the edition, 6, 7, 8, 9, 10, and 13 for its row
abbrev pub observation_in : ℕ → List ℕ → ℕ → Observation
observation_in e bs i = observation.satellite_in (edition_named e) (frame_from bs) i

abbrev pub satellite_checks : Frame → ℕ → List Check
satellite_checks f i = observation_checks f ((leb (held_after 24 48 f.n) i, 9) ∷ late_checks f)

abbrev pub observation_order : ℕ → List ℕ → ℕ → List ℕ → List Check
observation_order e bs i lent =
    (recall_order bs ++ ((ltb 1 e, 5) ∷ satellite_checks (frame_from bs) i)) ++ ((ltb (length lent) (row_size observation-bytes.row), 13) ∷ [])

-- POSITION: then 6, 7, 8, 10
abbrev pub position_order : List ℕ → List Check
position_order bs =
    let f = frame_from bs in
    recall_order bs ++ record_checks layout.Position f (wrong_size 4 f.n) ((position.out_of_range (position.position_in f), 10) ∷ [])

-- NULL: then 6, 7, 8
abbrev pub null_order : List ℕ → List Check
null_order bs = recall_order bs ++ record_checks layout.Null (frame_from bs) (null.too_many (frame_from bs).n) []

-- TEXT: then 6, 7, 8, 11, 13
abbrev pub text_read_order : List ℕ → List ℕ → List Check
text_read_order bs buffer =
    let f = frame_from bs in
    recall_order bs
    ++ record_checks layout.Text f (text.wrong_words f.n)
    ((any_of (text.forbidden (system_from bs)) (text.text_in f), 11) ∷ (ltb (length buffer) (text.length_in f), 13) ∷ [])

-- THE SMALL-BEACON PROFILE: then 7, 20, 8, 10 or 11, 21, 22
abbrev pub profile_read_order : List ℕ → List Check
profile_read_order bs = let f = frame_from bs in recall_order bs ++ ((late f.header.z, 7) ∷ type_order f.header.kind f)

-- ---- a frame goes out: 5 first, 13 last

-- the header of five numbers
abbrev pub header_with : ℕ → ℕ → ℕ → ℕ → ℕ → Header
header_with kind station z sequence code = record { kind = kind; station = station; z = z; sequence = sequence; state = state_of code }

-- a text's own: 12, 11
abbrev pub text_checks : System → List ℕ → List Check
text_checks s t = (wrong_count 90 (length t), 12) ∷ (any_of (text.forbidden s) t, 11) ∷ []

module _ (kind station z sequence code : ℕ) where
  abbrev H : Header
  H = header_with kind station z sequence code

  abbrev S : System
  S = system_of kind

  -- MAKING: 5, a health over 7 too, 6, 7, the layout's own, 13
  abbrev pub made_order : Layout → List Check → Frame → List ℕ → List Check
  made_order asked more f buffer = (ltb 7 code, 5) ∷ make_order asked H (more ++ (short_for f buffer ∷ []))

  -- observations, in an edition: 12, 10
  module _ (e : ℕ) (a : Epoch) (bs : List ℕ) where
    abbrev pub observation_rows : List Observation
    observation_rows = entries_from observation-bytes.row 15 bs

    abbrev pub observation_count : ℕ
    observation_count = count_of (row_size observation-bytes.row) (length bs)

    abbrev pub observations_frame : Frame
    observations_frame =
        frame_after (observation.epoch_bits a) 0 (observation.coding (edition_named e) (quantity_of kind)) H (take observation_count observation_rows)

    abbrev pub observations_own : List Check
    observations_own =
        (wrong_count 15 observation_count, 12)
        ∷ (observation.epoch_out a || any_of (observation.out_of_range (edition_named e) (quantity_of kind)) (take observation_count observation_rows), 10) ∷ []

    -- 5 for the edition comes first
    abbrev pub observations_order : List ℕ → List Check
    observations_order buffer = (ltb 1 e, 5) ∷ made_order layout.Observation observations_own observations_frame buffer

  -- a position: 10
  abbrev pub position_frame : Position → Frame
  position_frame p = frame_with position.fill position.coding H (p ∷ [])

  abbrev pub position_made_order : Position → List ℕ → List Check
  position_made_order p buffer = made_order layout.Position ((position.out_of_range p, 10) ∷ []) (position_frame p) buffer

  -- the null frame: 12
  abbrev pub null_frame : ℕ → Frame
  null_frame n = framed H (replicate n null.fill)

  abbrev pub null_made_order : ℕ → List ℕ → List Check
  null_made_order n buffer = made_order layout.Null ((null.too_many n, 12) ∷ []) (null_frame n) buffer

  -- a text: 12, 11
  abbrev pub text_frame : List ℕ → Frame
  text_frame t = frame_with text.fill text.coding H t

  abbrev pub text_made_order : List ℕ → List ℕ → List Check
  text_made_order t buffer = made_order layout.Text (text_checks S t) (text_frame t) buffer

  -- KEEP: 5 for a health over 7, for bytes that are no whole number of words or over 31, for another number of the header; 13
  abbrev pub words_frame : List ℕ → Frame
  words_frame bs = framed H (words_from 3 (length bs / 3) bs)

  abbrev pub kept_order : List ℕ → List ℕ → List Check
  kept_order bs buffer =
      (ltb 7 code, 5) ∷ (not (eqb (length bs % 3) 0), 5) ∷ (ltb 31 (length bs / 3), 5) ∷ (header_outside H, 5) ∷ short_for (words_frame bs) buffer ∷ []

  -- CUTTING corrections: 5, a health over 7 too, 6, 7, 12, 10, 22, 13 for all records
  abbrev pub cut_kept_frames : List ℕ → List Frame
  cut_kept_frames bs =
      cut_frames H (take (count_of (row_size (correction-bytes.row Gps)) (length bs)) (entries_from (correction-bytes.row Gps) 18 bs))

  abbrev pub cut_kept_order : List ℕ → List ℕ → List Check
  cut_kept_order bs buffer =
      ((ltb 7 code, 5) ∷ cut_order H (entries_from (correction-bytes.row Gps) 18 bs) (count_of (row_size (correction-bytes.row Gps)) (length bs)))
      ++ ((ltb (length buffer) (length (records_of (cut_kept_frames bs))), 13) ∷ [])

-- ---- UDRE: 5 for a health over 7, 10
abbrev pub limit_order : ℕ → ℕ → List Check
limit_order health udre = (ltb 7 health, 5) ∷ (ltb 3 udre, 10) ∷ []
