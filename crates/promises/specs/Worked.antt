-- The worked values that are to be proved, one list of statements, over the definitions that the public contracts cite. Assumes nothing.
use Rattle.std.specs.Prelude.{◌≡◌, false, List, [], ◌∷◌, ◌++◌, ℕ, ◌*◌, ◌≤◌, pos, neg_ℤ, length, replicate}
use Rattle.answer.specs.Order.{Says, refuses, answers}
use Rattle.bits.specs.Bits.{bits}
use Rattle.line.specs.Answer.{six_of, says_six}
use Rattle.word.specs.Answer.{word_of, says_sent}
use Rattle.frame.specs.Header.{state_of}
use Rattle.frame.specs.Frames.{built_of, turned_frame}
use Rattle.frame.specs.declared.Frame.{Frame}
use Rattle.frame.specs.declared.State.TheVariants.{Factor}
use Rattle.reader.specs.Reading.{started}
use Rattle.listing.specs.Listing.{end_room}
use Rattle.record_stages.specs.Stages.{says_count}
use Rattle.record_corrections.specs.Corrections.{count_corrections}
use Rattle.record_values.specs.Values.{exactly, stop, up_to, db_hz, not_tracked}
use Rattle.record_values.specs.Answer.{prc_mm, rrc_mm_s, udre_limit, cn0_db_hz, says_distance, says_rate, says_limit, says_strength}
use Rattle.promises.specs.Calls.{feeds, ends, replied, reply_to, bits_given, handed_out, takes_all, served}
use Rattle.promises.specs.Course.{Piece, listed_text, Roomy}

-- the stream of eleven bytes, and the same with all bits turned over
abbrev pub eleven_bytes : List ℕ
eleven_bytes = 0x40 ∷ 0x66 ∷ 0x61 ∷ 0x41 ∷ 0x68 ∷ 0x7F ∷ 0x7F ∷ 0x6C ∷ 0x73 ∷ 0x7F ∷ 0x44 ∷ []

abbrev pub turned_bytes : List ℕ
turned_bytes = 0x7F ∷ 0x59 ∷ 0x5E ∷ 0x7E ∷ 0x57 ∷ 0x40 ∷ 0x40 ∷ 0x53 ∷ 0x4C ∷ 0x40 ∷ 0x7B ∷ []

abbrev pub ten_bytes : List ℕ
ten_bytes = 0x40 ∷ 0x66 ∷ 0x61 ∷ 0x41 ∷ 0x68 ∷ 0x7F ∷ 0x7F ∷ 0x6C ∷ 0x73 ∷ 0x7F ∷ []

-- its frame: type 6, station 5, Z count 100, sequence 3, health 0, N 0, after carried bits 00
abbrev pub eleven_frame : Frame
eleven_frame = built_of (record { kind = 6; station = 5; z = 100; sequence = 3; state = Factor 100 }) 0 (replicate 31 0)

-- all that a fresh reader hands out of bytes and their end, every waiting frame taken at once
abbrev pub read_out : List ℕ → List (ℕ × Frame)
read_out bs = handed_out started (served bs ++ (ends ∷ takes_all))

-- its text: "6 6 5 100 3 0 0" and the carried pair, each of its bits this digit; "odd 0 even 0"; "frames 1 bytes 11 passed 0"; each with a newline
unfoldable pub three_lines : ℕ → List ℕ
three_lines digit =
    54 ∷ 32 ∷ 54 ∷ 32 ∷ 53 ∷ 32 ∷ 49 ∷ 48 ∷ 48 ∷ 32 ∷ 51 ∷ 32 ∷ 48 ∷ 32 ∷ 48 ∷ 32 ∷ digit ∷ digit ∷ 10
    ∷ 111 ∷ 100 ∷ 100 ∷ 32 ∷ 48 ∷ 32 ∷ 101 ∷ 118 ∷ 101 ∷ 110 ∷ 32 ∷ 48 ∷ 10
    ∷ 102 ∷ 114 ∷ 97 ∷ 109 ∷ 101 ∷ 115 ∷ 32 ∷ 49 ∷ 32 ∷ 98 ∷ 121 ∷ 116 ∷ 101 ∷ 115 ∷ 32 ∷ 49 ∷ 49 ∷ 32 ∷ 112 ∷ 97 ∷ 115 ∷ 115 ∷ 101 ∷ 100 ∷ 32 ∷ 48 ∷ 10 ∷ []

-- the bytes are listed to this text by any pieces that are enough, each with a byte at least and room for a line, and by the end
abbrev pub ListsAs : List ℕ → List ℕ → Type 0
ListsAs text bs = (ps : List Piece) (out : List ℕ) → Roomy ps → 7 * length bs ≤ length ps → end_room ≤ length out → listed_text bs ps out ≡ text

-- a frame of type 1 with this Z count and this N
abbrev pub type_one : ℕ → ℕ → Frame
type_one z n = built_of (record { kind = 1; station = 5; z = z; sequence = 3; state = Factor 100 }) n (replicate 31 0)

-- how many satellites it has, or the refusal
abbrev pub satellites : ℕ → ℕ → Says ℕ
satellites z n = says_count (count_corrections (type_one z n))

pub record WorkedValues : Type 0 where
  -- word 1, sent after carried bits 00, and word 2, which is sent turned over after 11, each with its parity
  pub word-1 : says_sent (word_of 0b00 0x661805) ≡ answers (bits 30 0b011001100001100000000101111111)
  pub word-2 : says_sent (word_of 0b11 0x032300) ≡ answers (bits 30 0b111111001101110011111111001000)
  -- the eleven bytes give this frame at position 6, and turned over the same after 11; the first ten of them and the end give none
  pub eleven : read_out eleven_bytes ≡ (6, eleven_frame) ∷ []
  pub turned : read_out turned_bytes ≡ (6, turned_frame eleven_frame) ∷ []
  pub ten : read_out ten_bytes ≡ []
  -- both list as the same three lines but for the pair, 00 and 11
  pub eleven-text : ListsAs (three_lines 48) eleven_bytes
  pub turned-text : ListsAs (three_lines 49) turned_bytes
  -- byte 0x3F is refusal 1; byte 0x40 is six zero bits; by the line's own call, and fed to a fresh reader
  pub byte-3F : says_six (six_of 0x3F) ≡ refuses 1
  pub byte-40 : says_six (six_of 0x40) ≡ answers (replicate 6 false)
  pub fed-3F : reply_to started (feeds 0x3F) ≡ replied (refuses 1)
  pub fed-40 : bits_given (feeds 0x40) (reply_to started (feeds 0x40)) ≡ replicate 6 false
  -- scale 0, PRC 32767; scale 1, PRC -32767; PRC -32768 is stop in both scales
  pub prc-highest : says_distance (prc_mm 0 (pos 32767)) ≡ answers (exactly (pos 655340))
  pub prc-lowest : says_distance (prc_mm 1 (neg_ℤ (pos 32767))) ≡ answers (exactly (neg_ℤ (pos 10485440)))
  pub prc-stop-0 : says_distance (prc_mm 0 (neg_ℤ (pos 32768))) ≡ answers stop
  pub prc-stop-1 : says_distance (prc_mm 1 (neg_ℤ (pos 32768))) ≡ answers stop
  -- scale 0, RRC 127; scale 1, RRC -127; RRC -128 is stop in both scales
  pub rrc-highest : says_rate (rrc_mm_s 0 (pos 127)) ≡ answers (exactly (pos 254))
  pub rrc-lowest : says_rate (rrc_mm_s 1 (neg_ℤ (pos 127))) ≡ answers (exactly (neg_ℤ (pos 4064)))
  pub rrc-stop-0 : says_rate (rrc_mm_s 0 (neg_ℤ (pos 128))) ≡ answers stop
  pub rrc-stop-1 : says_rate (rrc_mm_s 1 (neg_ℤ (pos 128))) ≡ answers stop
  -- UDRE 2 with health 3, factor 0.30, and with health 6, not monitored
  pub udre-health-3 : says_limit (udre_limit (state_of 3) 2) ≡ answers (up_to 2400)
  pub udre-health-6 : says_limit (udre_limit (state_of 6) 2) ≡ answers (up_to 8000)
  -- a frame of type 1: 3 satellites where N is 5, 4 where it is 7; refusal 8 where it is 1, 3 or 31
  pub n-5 : satellites 100 5 ≡ answers 3
  pub n-7 : satellites 100 7 ≡ answers 4
  pub n-1 : satellites 100 1 ≡ refuses 8
  pub n-3 : satellites 100 3 ≡ refuses 8
  pub n-31 : satellites 100 31 ≡ refuses 8
  -- C/N0 codes 31 and 0
  pub cn0-31 : says_strength (cn0_db_hz 31) ≡ answers (db_hz 55)
  pub cn0-0 : says_strength (cn0_db_hz 0) ≡ answers not_tracked
  -- Z count 5999 is read, 6000 is refusal 7
  pub z-5999 : satellites 5999 5 ≡ answers 3
  pub z-6000 : satellites 6000 5 ≡ refuses 7
