-- Worked records, one each of types 1, 3, 5, 6, 9, 16, 31, 34 (null) and 36: what the makers answer, and what the readers answer of these frames,
-- in the table's terms. Assumes nothing.
use mathlib.Core.Path.{◌≡◌, refl}
use mathlib.Core.List.{List, [], ◌∷◌}
use Prim.Native.Nat.{ℕ}
use lib.IntN.{pos, negsuc}
use lib.ListN.{replicate}
use Rattle.answer.specs.Order.{refuses, answers}
use Rattle.bits.specs.Bits.{bits, number}
use Rattle.bits.specs.Rows.{data_bits, cut_words, fill_of, filled, words_in}
use Rattle.bits.specs.Signed.{signed, code}
use Rattle.frame.specs.Frames.{framed}
use Rattle.frame.specs.Header.{factors}
use Rattle.frame.specs.Layout.{layout_of, system_of}
use Rattle.frame.specs.Widths.{state_outside, numbers_outside, header_outside, pair_outside, outside}
use Rattle.frame.specs.declared.Header.{Header}
use Rattle.frame.specs.declared.Frame.{Frame}
use Rattle.frame.specs.declared.State.TheVariants.{Factor}
use Rattle.record_fields.specs.Coding.{frame_bits, entry_bits, frame_with}
use Rattle.record_stages.specs.Stages.{other_layout, misfit_after, refused_made, done_made, says_count, says_made}
use Rattle.record_corrections.specs.declared.Issue.TheVariants.{Iod, Age}
use Rattle.record_corrections.specs.declared.Correction.{Correction}
use Rattle.record_corrections.specs.Issues.{issue_of, issue_first, issue_others, last_most}
use Rattle.record_corrections.specs.Corrections.{count_corrections, correction_at, make_corrections, says_correction_read}
use Rattle.record_healths.specs.declared.Condition.TheVariants.{Code}
use Rattle.record_healths.specs.declared.SatelliteHealth.{SatelliteHealth}
use Rattle.record_healths.specs.Conditions.{condition_of, condition_number}
use Rattle.record_healths.specs.Healths.{count_healths, health_at, make_healths, says_health_read}
use Rattle.record_positions.specs.declared.Position.{Position}
use Rattle.record_positions.specs.Positions.{too_low, out_of_range as position_out, read_position, make_position, says_position_read}
use Rattle.record_nulls.specs.Nulls.{read_null, make_null, says_null_read}
use Rattle.record_texts.specs.Texts.{characters, text_length, last_code, read_text, buffer_after, make_text}

-- the header of a type: station 5, Z count 100, sequence 3, health 0
abbrev pub header : ℕ → Header
header kind = record { kind = kind; station = 5; z = 100; sequence = 3; state = Factor 100 }

-- ---- types 1 and 9: scale 0, UDRE 0, satellite 3, PRC 1000, RRC -5, IOD 77

abbrev pub correction : Correction
correction = record { scale = 0; udre = 0; satellite = 3; prc = pos 1000; rrc = negsuc 4; issue = Iod 77 }

abbrev pub correction_frame : ℕ → Frame
correction_frame kind = framed (header kind) (0x0303E8 ∷ 0xFB4DAA ∷ [])

pub correction-1-made : says_made (make_corrections (header 1) (correction ∷ []) 1) ≡ answers (correction_frame 1)
unfolding factors state_outside numbers_outside header_outside layout_of other_layout done_made refused_made
    framed frame_with words_in filled cut_words fill_of entry_bits bits number code system_of issue_first issue_others last_most make_corrections
correction-1-made = refl

pub correction-9-made : says_made (make_corrections (header 9) (correction ∷ []) 1) ≡ answers (correction_frame 9)
unfolding factors state_outside numbers_outside header_outside layout_of other_layout done_made refused_made
    framed frame_with words_in filled cut_words fill_of entry_bits bits number code system_of issue_first issue_others last_most make_corrections
correction-9-made = refl

pub correction-1-count : says_count (count_corrections (correction_frame 1)) ≡ answers 1
unfolding factors state_outside numbers_outside header_outside layout_of other_layout
    framed outside pair_outside frame_bits data_bits misfit_after system_of count_corrections
correction-1-count = refl

pub correction-1-read : says_correction_read (correction_at (correction_frame 1) 0) ≡ answers correction
unfolding factors state_outside numbers_outside header_outside layout_of other_layout
    framed outside pair_outside frame_bits data_bits bits number signed code misfit_after system_of issue_of issue_first issue_others last_most correction_at
correction-1-read = refl

-- ---- type 31: every field at its least, change 0 and tb 0

abbrev pub oldest : Correction
oldest = record { scale = 0; udre = 0; satellite = 1; prc = pos 0; rrc = pos 0; issue = Age 0 0 }

abbrev pub oldest_frame : Frame
oldest_frame = framed (header 31) (0x010000 ∷ 0x0000AA ∷ [])

pub correction-31-made : says_made (make_corrections (header 31) (oldest ∷ []) 1) ≡ answers oldest_frame
unfolding factors state_outside numbers_outside header_outside layout_of other_layout done_made refused_made
    framed frame_with words_in filled cut_words fill_of entry_bits bits number code system_of issue_first issue_others last_most make_corrections
correction-31-made = refl

pub correction-31-read : says_correction_read (correction_at oldest_frame 0) ≡ answers oldest
unfolding factors state_outside numbers_outside header_outside layout_of other_layout
    framed outside pair_outside frame_bits data_bits bits number signed code misfit_after system_of issue_of issue_first issue_others last_most correction_at
correction-31-read = refl

-- ---- type 3: X 123456789, Y -987654321, Z 2147483647

abbrev pub position : Position
position = record { x = pos 123456789; y = negsuc 987654320; z = pos 2147483647 }

abbrev pub position_frame : Frame
position_frame = framed (header 3) (0x075BCD ∷ 0x15C521 ∷ 0x974F7F ∷ 0xFFFFFF ∷ [])

pub position-3-made : says_made (make_position (header 3) position) ≡ answers position_frame
unfolding factors state_outside numbers_outside header_outside layout_of other_layout done_made refused_made
    framed frame_with words_in filled cut_words fill_of entry_bits bits number code too_low position_out make_position
position-3-made = refl

pub position-3-read : says_position_read (read_position position_frame) ≡ answers position
unfolding factors state_outside numbers_outside header_outside layout_of other_layout
    framed outside pair_outside frame_bits data_bits bits number signed too_low position_out read_position
position-3-read = refl

-- ---- type 5: reserved 1, satellite 32, link 1, health 7, C/N0 31, enable 1, new 0, loss 1, time 15, reserved 3; then a plainer one

abbrev pub highest : SatelliteHealth
highest = record { reserved = 1; satellite = 32; link = 1; health = Code 7; cn0 = 31; enable = 1; new_data = 0; loss = 1; time = 15; spare = 3 }

abbrev pub plainer : SatelliteHealth
plainer = record { reserved = 0; satellite = 1; link = 0; health = Code 4; cn0 = 0; enable = 0; new_data = 0; loss = 1; time = 3; spare = 2 }

abbrev pub health_frame : Frame
health_frame = framed (header 5) (0x83FF7F ∷ 0x05004E ∷ [])

pub health-5-made : says_made (make_healths (header 5) (highest ∷ plainer ∷ []) 2) ≡ answers health_frame
unfolding factors state_outside numbers_outside header_outside layout_of other_layout done_made refused_made
    framed frame_with words_in filled cut_words fill_of entry_bits bits number system_of condition_number make_healths
health-5-made = refl

pub health-5-count : says_count (count_healths health_frame) ≡ answers 2
unfolding factors state_outside numbers_outside header_outside layout_of other_layout
    framed outside pair_outside frame_bits data_bits misfit_after system_of count_healths
health-5-count = refl

pub health-5-read-0 : says_health_read (health_at health_frame 0) ≡ answers highest
unfolding factors state_outside numbers_outside header_outside layout_of other_layout
    framed outside pair_outside frame_bits data_bits bits number misfit_after system_of condition_of health_at
health-5-read-0 = refl

pub health-5-read-1 : says_health_read (health_at health_frame 1) ≡ answers plainer
unfolding factors state_outside numbers_outside header_outside layout_of other_layout
    framed outside pair_outside frame_bits data_bits bits number misfit_after system_of condition_of health_at
health-5-read-1 = refl

-- ---- type 6: no data word

pub null-6-made : says_made (make_null (header 6) 0) ≡ answers (framed (header 6) [])
unfolding factors state_outside numbers_outside header_outside layout_of other_layout done_made refused_made framed make_null
null-6-made = refl

pub null-6-read : says_null_read (read_null (framed (header 6) [])) ≡ answers 0
unfolding factors state_outside numbers_outside header_outside layout_of other_layout framed outside pair_outside read_null
null-6-read = refl

-- ---- type 34 with one word: the fill

abbrev pub null_frame : Frame
null_frame = framed (header 34) (0xAAAAAA ∷ [])

pub null-34-made : says_made (make_null (header 34) 1) ≡ answers null_frame
unfolding factors state_outside numbers_outside header_outside layout_of other_layout done_made refused_made framed make_null
null-34-made = refl

pub null-34-read : says_null_read (read_null null_frame) ≡ answers 1
unfolding factors state_outside numbers_outside header_outside layout_of other_layout framed outside pair_outside read_null
null-34-read = refl

-- ---- type 16: QUICK, and one zero that closes the last word

abbrev pub quick : List ℕ
quick = 81 ∷ 85 ∷ 73 ∷ 67 ∷ 75 ∷ []

abbrev pub text_frame : Frame
text_frame = framed (header 16) (0x515549 ∷ 0x434B00 ∷ [])

pub text-16-made : says_made (make_text (header 16) quick) ≡ answers text_frame
unfolding factors state_outside numbers_outside header_outside layout_of system_of other_layout done_made refused_made
    framed frame_with words_in filled cut_words fill_of entry_bits bits number last_code make_text
text-16-made = refl

-- read into a buffer of six: the characters, and what stood behind them
pub text-16-read : says_count (read_text text_frame (replicate 6 9)) ≡ answers 5
unfolding factors state_outside numbers_outside header_outside layout_of system_of other_layout
    framed outside pair_outside frame_bits data_bits bits number characters text_length last_code read_text
text-16-read = refl

pub text-16-written : buffer_after text_frame (replicate 6 9) ≡ 81 ∷ 85 ∷ 73 ∷ 67 ∷ 75 ∷ 9 ∷ []
unfolding factors state_outside numbers_outside header_outside layout_of system_of other_layout
    framed outside pair_outside frame_bits data_bits bits number characters text_length last_code buffer_after
text-16-written = refl

-- 90 characters have N 30; 91 are refusal 12
pub text-16-of-90 : says_made (make_text (header 16) (replicate 90 65)) ≡ answers (framed (header 16) (replicate 30 0x414141))
unfolding factors state_outside numbers_outside header_outside layout_of system_of other_layout done_made refused_made
    framed frame_with words_in filled cut_words fill_of entry_bits bits number last_code make_text
text-16-of-90 = refl

pub text-16-of-91 : says_made (make_text (header 16) (replicate 91 65)) ≡ refuses 12
unfolding factors state_outside numbers_outside header_outside layout_of other_layout refused_made make_text
text-16-of-91 = refl

-- ---- type 36: codes 1, 127, 128 and 191, the ends of ASCII and of the letters, and two zeros that close the last word

abbrev pub letters : List ℕ
letters = 1 ∷ 127 ∷ 128 ∷ 191 ∷ []

abbrev pub letters_frame : Frame
letters_frame = framed (header 36) (0x017F80 ∷ 0xBF0000 ∷ [])

pub text-36-made : says_made (make_text (header 36) letters) ≡ answers letters_frame
unfolding factors state_outside numbers_outside header_outside layout_of system_of other_layout done_made refused_made
    framed frame_with words_in filled cut_words fill_of entry_bits bits number last_code make_text
text-36-made = refl

pub text-36-read : says_count (read_text letters_frame (replicate 6 9)) ≡ answers 4
unfolding factors state_outside numbers_outside header_outside layout_of system_of other_layout
    framed outside pair_outside frame_bits data_bits bits number characters text_length last_code read_text
text-36-read = refl

pub text-36-written : buffer_after letters_frame (replicate 6 9) ≡ 1 ∷ 127 ∷ 128 ∷ 191 ∷ 9 ∷ 9 ∷ []
unfolding factors state_outside numbers_outside header_outside layout_of system_of other_layout
    framed outside pair_outside frame_bits data_bits bits number characters text_length last_code buffer_after
text-36-written = refl

-- code 192 is refusal 11; 128 is one in type 16
pub text-36-of-192 : says_made (make_text (header 36) (192 ∷ [])) ≡ refuses 11
unfolding factors state_outside numbers_outside header_outside layout_of system_of other_layout refused_made last_code make_text
text-36-of-192 = refl

pub text-16-of-128 : says_made (make_text (header 16) (128 ∷ [])) ≡ refuses 11
unfolding factors state_outside numbers_outside header_outside layout_of system_of other_layout refused_made last_code make_text
text-16-of-128 = refl
