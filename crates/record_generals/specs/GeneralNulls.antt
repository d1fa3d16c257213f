-- Type 42 with one data word, the null frame: the system in four bits, then the fill; its record is N and the system. The answers in their
-- orders. Assumes nothing.
use Rattle.std.specs.Prelude.{◌≡◌, Bool, false, not, List, [], ◌∷◌, ℕ, ◌<◌, eqb, get_or}
use Rattle.answer.specs.Order.{Says, refuses, answers, in_order}
use Rattle.bits.specs.Fields.{fields_at, packed}
use Rattle.bits.specs.Rows.{FillAfter}
use Rattle.frame.specs.Widths.{header_outside, outside, late}
use Rattle.frame.specs.declared.Header.{Header}
use Rattle.frame.specs.declared.Frame.{Frame}
use Rattle.record_fields.specs.declared.Rows.{Rows}
use Rattle.record_fields.specs.Coding.{Coding, frame_bits, frame_after}
use Rattle.record_fields.specs.Tables.{row, codes_of, no_rows, put_row}
use Rattle.record_stages.specs.declared.Made.{Made}
use Rattle.record_stages.specs.Stages.{wrong_size, refused_made, done_made}
use Rattle.record_generals.specs.declared.GeneralNullRead.{GeneralNullRead}
use Rattle.record_generals.specs.declared.GeneralNullRead.TheVariants as null
use Rattle.record_generals.specs.Generals.{other_system, coding, fill}

-- the system, four bits
abbrev pub system_coding : Coding ℕ
system_coding = record { widths = 4 ∷ []; meant = λ vs. get_or vs 0 0; codes = λ s. codes_of (4 ∷ []) (row (s ∷ [])) }

abbrev pub system_in : Frame → ℕ
system_in f = system_coding.meant (fields_at system_coding.widths 0 (frame_bits f))

abbrev pub system_bits : ℕ → List Bool
system_bits s = packed system_coding.widths (system_coding.codes s)

abbrev pub system_rows : ℕ → Rows
system_rows s = put_row (4 ∷ []) [] [] (row (s ∷ [])) no_rows

-- REFUSAL 6: any type but 42; type 41 has no null frame
abbrev pub other_than_null : ℕ → Bool
other_than_null kind = not (eqb kind 42)

-- READING: 5, 6, 7, 8 for an N other than 1, 23; any fill is read
unfoldable pub read_general_null : Frame → GeneralNullRead
read_general_null f =
    in_order ((outside f, 5) ∷ (other_than_null f.header.kind, 6) ∷ (late f.header.z, 7) ∷ (wrong_size 1 f.n, 8)
    ∷ (other_system (system_in f), 23) ∷ []) null.Refused (null.Null f.n (system_in f))

-- MAKING: 5, 6, 7, 23, 12 for an N other than 1; the frame of the system's bits alone, filled
unfoldable pub make_general_null : Header → ℕ → ℕ → Made
make_general_null h n s =
    in_order ((header_outside h, 5) ∷ (other_than_null h.kind, 6) ∷ (late h.z, 7) ∷ (other_system s, 23) ∷ (wrong_size 1 n, 12) ∷ []) refused_made
    (done_made (frame_after (system_bits s) fill (coding 0) h []))

-- in the table's terms
abbrev pub says_general_null_read : GeneralNullRead → Says (ℕ × ℕ)
says_general_null_read (null.Null n s) = answers (n, s)
says_general_null_read (null.Refused n) = refuses n

-- IT CAN BE SENT under every header of type 42 within its widths and the hour, with one word, for a system of the four
pub record SendableGeneralNull (h : Header) (n s : ℕ) : Type 0 where
  pub inside : header_outside h ≡ false
  pub kind : h.kind ≡ 42
  pub hour : h.z < 6000
  pub one : n ≡ 1
  pub system : other_system s ≡ false

-- a made frame reads back: its header, N and the system; it is within its widths, its fill is standard
pub record GeneralNullMade (h : Header) (wanted s : ℕ) (f : Frame) : Type 0 where
  pub header : f.header ≡ h
  pub inside : outside f ≡ false
  pub reads : read_general_null f ≡ null.Null wanted s
  pub n : f.n ≡ wanted
  pub fill : FillAfter fill 4 (frame_bits f)

-- A FRAME THAT IS NULL: type 42 within its widths and the hour, one word, a system of the four
pub record HoldsGeneralNull (f : Frame) : Type 0 where
  pub inside : outside f ≡ false
  pub kind : f.header.kind ≡ 42
  pub hour : f.header.z < 6000
  pub one : f.n ≡ 1
  pub system : other_system (system_in f) ≡ false
