-- Types 6 and 34, the null frame: a frame without fields; its record is N. The answers in their orders. Assumes nothing.
use Rattle.std.specs.Prelude.{Bool, false, cond, ◌≡◌, [], ◌∷◌, ℕ, ◌≤◌, ltb, eqb, replicate}
use Rattle.answer.specs.Order.{Says, refuses, answers, in_order}
use Rattle.frame.specs.Widths.{outside}
use Rattle.frame.specs.Frames.{framed, data_words}
use Rattle.frame.specs.declared.Header.{Header}
use Rattle.frame.specs.declared.Frame.{Frame}
use Rattle.frame.specs.declared.Layout.TheVariants as layout
use Rattle.record_fields.specs.declared.Rows.{Rows}
use Rattle.record_fields.specs.Tables.{row, no_rows, put_row}
use Rattle.record_stages.specs.declared.Made.{Made}
use Rattle.record_stages.specs.declared.Size.{Size}
use Rattle.record_stages.specs.declared.Size.TheVariants.{Right, Wrong}
use Rattle.record_stages.specs.Stages.{read_order, make_order, refused_made, done_made, HeaderFor, FrameFor}
use Rattle.record_nulls.specs.declared.NullRead.{NullRead}
use Rattle.record_nulls.specs.declared.NullRead.TheVariants as read

-- THE MOST DATA WORDS: a null frame has none or one
abbrev pub most_words : ℕ
most_words = 1

abbrev pub too_many : ℕ → Bool
too_many n = ltb most_words n

abbrev pub null_size : ℕ → Size
null_size n = cond (too_many n) Wrong Right

-- the fill of a word: 10101010 three times
abbrev pub fill : ℕ
fill = 0xAAAAAA

-- STANDARD FILL: every data word is filled
abbrev pub StandardFill : Frame → Type 0
StandardFill f = data_words f ≡ replicate f.n fill

-- READING: 5, 6, 7, 8; the record is N
unfoldable pub read_null : Frame → NullRead
read_null f = in_order (read_order layout.Null f (too_many f.n) []) read.Refused (read.Null f.n)

-- MAKING with N words: 5, 6, 7, 12
unfoldable pub make_null : Header → ℕ → Made
make_null h n =
    in_order (make_order layout.Null h ((too_many n, 12) ∷ [])) refused_made (done_made (framed h (replicate n fill)))

-- as `make_frame` takes it: N over the most counts as no entry, which is 12; a word of fill is one field of 24 bits
abbrev pub null_count : ℕ → ℕ
null_count n = cond (too_many n) 0 1

abbrev pub null_rows : ℕ → Rows
null_rows n = cond (eqb n 0) no_rows (put_row (24 ∷ []) [] [] (row (fill ∷ [])) no_rows)

-- in the table's terms
abbrev pub says_null_read : NullRead → Says ℕ
says_null_read (read.Null n) = answers n
says_null_read (read.Refused n) = refuses n

-- A made frame reads back: its header, and N; it is within its widths, its fill is standard
pub record NullMade (h : Header) (wanted : ℕ) (f : Frame) : Type 0 where
  pub header : f.header ≡ h
  pub inside : outside f ≡ false
  pub reads : read_null f ≡ read.Null wanted
  pub n : f.n ≡ wanted
  pub fill : StandardFill f

-- A NULL FRAME CAN BE SENT under every header that is for it, with no word or one
pub record SendableNull (h : Header) (n : ℕ) : Type 0 where
  pub header : HeaderFor layout.Null h
  pub few : n ≤ most_words

-- A FRAME THAT IS NULL: it is for the layout, and N is 0 or 1
pub record HoldsNull (f : Frame) : Type 0 where
  pub frame : FrameFor layout.Null f
  pub few : f.n ≤ most_words
