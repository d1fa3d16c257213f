-- Types 16 and 36, over the system: the layout as data, which of its characters are text, and the answers in their orders. Assumes nothing.
use Rattle.std.specs.Prelude.{◌≡◌, Result, Bool, ◌||◌, cond, false, List, [], ◌∷◌, ◌++◌, map, ℕ, ◌*◌, ◌-◌, ◌+◌, ◌/◌, ◌≤◌, ◌<◌, ltb, eqb, length, drop, get_or, replicate}
use Rattle.answer.specs.Order.{Check, in_order}
use Rattle.answer.specs.Table.{refused, granted}
use Rattle.answer.specs.declared.Refusal.{Refusal}
use Rattle.bits.specs.Rows.{rows_at, FillAfter}
use Rattle.frame.specs.Widths.{any_of, outside}
use Rattle.frame.specs.declared.Header.{Header}
use Rattle.frame.specs.declared.Frame.{Frame}
use Rattle.frame.specs.declared.Layout.TheVariants as layout
use Rattle.frame.specs.declared.System.{System}
use Rattle.frame.specs.declared.System.TheVariants.{Gps, Glonass}
use Rattle.frame.specs.Layout.{system_of}
use Rattle.record_fields.specs.Coding.{Coding, frame_bits, entry_in, frame_with}
use Rattle.record_fields.specs.Tables.{row}
use Rattle.record_stages.specs.declared.Count.{Count}
use Rattle.record_stages.specs.declared.Count.TheVariants as count
use Rattle.record_stages.specs.declared.Made.{Made}
use Rattle.record_stages.specs.Stages.{wrong_count, read_order, make_order, refused_made, done_made, HeaderFor, FrameFor}

-- THE LAYOUT of both systems: a character is 8 bits, three a word
abbrev pub widths : List ℕ
widths = 8 ∷ []

abbrev pub meant : List ℕ → ℕ
meant vs = get_or vs 0 0

abbrev pub codes : ℕ → List ℕ
codes c = c ∷ []

abbrev pub coding : Coding ℕ
coding = record { widths = widths; meant = meant; codes = codes }

-- the row of a character
abbrev pub numbers : ℕ → List ℕ
numbers c = row (c ∷ [])

-- the fill: zeros
abbrev pub fill : ℕ
fill = 0

-- the first m characters of bits
unfoldable pub characters : ℕ → List Bool → List ℕ
characters m bs = map meant (rows_at widths m 0 bs)

-- how many of m characters are text: a zero at the end is fill, and so is a zero before it
unfoldable pub text_length : ℕ → List Bool → ℕ
text_length m bs = cond (eqb (entry_in coding (m - 1) bs) 0) (cond (eqb (entry_in coding (m - 2) bs) 0) (m - 2) (m - 1)) m

abbrev pub length_in : Frame → ℕ
length_in f = text_length (3 * f.n) (frame_bits f)

abbrev pub text_in : Frame → List ℕ
text_in f = characters (length_in f) (frame_bits f)

-- REFUSAL 8: N not 1 to 30
abbrev pub wrong_words : ℕ → Bool
wrong_words n = wrong_count 30 n

abbrev pub words_size : ℕ → Result (Unit {0}) Refusal
words_size n = cond (wrong_words n) (refused 8) granted

-- THE LAST CODE: 1 to 127 are ASCII; GLONASS has the Russian letters of annex G too, 128 to 191
unfoldable pub last_code : System → ℕ
last_code Gps = 127
last_code Glonass = 191

abbrev pub least : List ℕ
least = 1 ∷ []

abbrev pub most : System → List ℕ
most s = last_code s ∷ []

-- REFUSAL 11: a character not 1 to its system's last code
abbrev pub forbidden : System → ℕ → Bool
forbidden s c = ltb c 1 || ltb (last_code s) c

abbrev pub characters_of : System → List ℕ → Result (Unit {0}) Refusal
characters_of s t = cond (any_of (forbidden s) t) (refused 11) granted

-- REFUSAL 13: a buffer shorter than the text
abbrev pub room_of : ℕ → ℕ → Result (Unit {0}) Refusal
room_of size count = cond (ltb size count) (refused 13) granted

-- ---- the answers; a frame's system is that of its type

-- READING into a buffer: 5, 6, 7, 8, 11, and 13 for a buffer shorter than the text
abbrev pub text_order : Frame → List ℕ → List Check
text_order f buffer =
    read_order layout.Text f (wrong_words f.n)
    ((any_of (forbidden (system_of f.header.kind)) (text_in f), 11) ∷ (ltb (length buffer) (length_in f), 13) ∷ [])

-- the number of characters
unfoldable pub read_text : Frame → List ℕ → Count
read_text f buffer = in_order (text_order f buffer) count.Refused (count.Of (length_in f))

-- the buffer afterwards: the characters and what stood behind them; after a refusal what stood there
unfoldable pub buffer_after : Frame → List ℕ → List ℕ
buffer_after f buffer = in_order (text_order f buffer) (λ n. buffer) (text_in f ++ drop (length_in f) buffer)

-- MAKING: 5, 6, 7, 12, 11; at most 90 characters
unfoldable pub make_text : Header → List ℕ → Made
make_text h text =
    in_order (make_order layout.Text h ((wrong_count 90 (length text), 12) ∷ (any_of (forbidden (system_of h.kind)) text, 11) ∷ [])) refused_made
    (done_made (frame_with fill coding h text))

-- ---- what the round trip says

-- A made frame reads back: its header, its text; it is within its widths, N is worked out, its fill is zeros
pub record TextMade (h : Header) (t : List ℕ) (f : Frame) : Type 0 where
  pub header : f.header ≡ h
  pub inside : outside f ≡ false
  pub reads : (buffer : List ℕ) → length t ≤ length buffer → read_text f buffer ≡ count.Of (length t)
  pub writes : (buffer : List ℕ) → length t ≤ length buffer → buffer_after f buffer ≡ t ++ drop (length t) buffer
  pub n : f.n ≡ (length t * 8 + 23) / 24
  pub fills : FillAfter fill (length t * 8) (frame_bits f)

-- characters 1 to the system's last code
abbrev pub Allowed : System → List ℕ → Type 0
Allowed s t = (i : ℕ) → i < length t → (1 ≤ get_or t i 0) × (get_or t i 0 ≤ last_code s)

-- A TEXT THAT CAN BE SENT: 1 to 90 characters, each 1 to the last code
pub record SendableText (h : Header) (t : List ℕ) : Type 0 where
  pub header : HeaderFor layout.Text h
  pub some : 1 ≤ length t
  pub few : length t ≤ 90
  pub allowed : Allowed (system_of h.kind) t

-- A FRAME THAT HOLDS A TEXT: N is 1 to 30; its 3N characters are the text, each 1 to the last code, and behind it k zeros, none, one or two
pub record HoldsText (f : Frame) (t : List ℕ) (k : ℕ) : Type 0 where
  pub frame : FrameFor layout.Text f
  pub some : 1 ≤ f.n
  pub few : f.n ≤ 30
  pub zeros : k ≤ 2
  pub says : characters (3 * f.n) (frame_bits f) ≡ t ++ replicate k 0
  pub allowed : Allowed (system_of f.header.kind) t

-- it is read: the number of its characters, and they stand in the buffer before what stood behind them
pub record ReadsText (f : Frame) (t : List ℕ) : Type 0 where
  pub reads : (buffer : List ℕ) → length t ≤ length buffer → read_text f buffer ≡ count.Of (length t)
  pub writes : (buffer : List ℕ) → length t ≤ length buffer → buffer_after f buffer ≡ t ++ drop (length t) buffer
