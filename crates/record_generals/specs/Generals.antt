-- Types 41 and 42, the general corrections, over the width of the delay: the head and the satellite's part as data, what their codes mean, and
-- the answers in their orders. Assumes nothing.
use Rattle.std.specs.Prelude.{Result, Bool, cond, not, ◌||◌, ◌&&◌, List, [], ◌∷◌, ℕ, ◌+◌, ◌-◌, ◌^◌, eqb, leb, take, get_or}
use Rattle.answer.specs.Order.{Says, refuses, answers, Check, in_order}
use Rattle.answer.specs.Table.{refused, granted}
use Rattle.answer.specs.declared.Refusal.{Refusal}
use Rattle.bits.specs.Fields.{fields_at, packed}
use Rattle.bits.specs.Signed.{signed}
use Rattle.frame.specs.Widths.{any_of}
use Rattle.frame.specs.declared.Header.{Header}
use Rattle.frame.specs.declared.Frame.{Frame}
use Rattle.frame.specs.declared.Layout.TheVariants as layout
use Rattle.record_fields.specs.declared.Rows.{Rows}
use Rattle.record_fields.specs.Coding.{Coding, frame_bits, entry_after, frame_after}
use Rattle.record_fields.specs.Narrow.{code_within}
use Rattle.record_fields.specs.Tables.{row, codes_of, row_out, no_rows, put_row}
use Rattle.record_stages.specs.declared.Count.{Count}
use Rattle.record_stages.specs.declared.Count.TheVariants as count
use Rattle.record_stages.specs.declared.Made.{Made}
use Rattle.record_stages.specs.Stages.{held_after, misfit_after, wrong_count, read_order, headed_order, make_order, refused_made, done_made}
use Rattle.record_generals.specs.declared.Staged.{Staged}
use Rattle.record_generals.specs.declared.Staged.TheVariants as staged
use Rattle.record_generals.specs.declared.GeneralHead.{GeneralHead}
use Rattle.record_generals.specs.declared.General.{General}
use Rattle.record_generals.specs.declared.HeadRead.{HeadRead}
use Rattle.record_generals.specs.declared.HeadRead.TheVariants as head
use Rattle.record_generals.specs.declared.GeneralRead.{GeneralRead}
use Rattle.record_generals.specs.declared.GeneralRead.TheVariants as read

-- ---- THE SYSTEMS: 1 GPS, 2 GLONASS, 5 QZSS, 6 BDS; REFUSAL 23 for any other number, Galileo's 3 among them

unfoldable pub other_system : ℕ → Bool
other_system s = not (any_of (eqb s) (1 ∷ 2 ∷ 5 ∷ 6 ∷ []))

abbrev pub known_of : ℕ → Result (Unit {0}) Refusal
known_of s = cond (other_system s) (refused 23) granted

-- ---- THE HEAD, 13 bits: system 4, signal 4, ephemeris type 2, period of use 2, ionosphere 1

abbrev pub head_widths : List ℕ
head_widths = 4 ∷ 4 ∷ 2 ∷ 2 ∷ 1 ∷ []

abbrev pub head_meant : List ℕ → GeneralHead
head_meant vs = record {
  system = get_or vs 0 0;
  signal = get_or vs 1 0;
  ephemeris = get_or vs 2 0;
  period = get_or vs 3 0;
  ionosphere = get_or vs 4 0;
}

abbrev pub head_numbers : GeneralHead → List ℕ
head_numbers a = row (a.system ∷ a.signal ∷ a.ephemeris ∷ a.period ∷ a.ionosphere ∷ [])

abbrev pub head_coding : Coding GeneralHead
head_coding = record { widths = head_widths; meant = head_meant; codes = λ a. codes_of head_widths (head_numbers a) }

-- the head of a frame, and the bits of a head
abbrev pub head_in : Frame → GeneralHead
head_in f = head_meant (fields_at head_widths 0 (frame_bits f))

abbrev pub head_bits : GeneralHead → List Bool
head_bits a = packed head_widths (head_coding.codes a)

-- REFUSAL 10: a number over its width
abbrev pub head_most : List ℕ
head_most = 15 ∷ 15 ∷ 3 ∷ 3 ∷ 1 ∷ []

abbrev pub head_out : GeneralHead → Bool
head_out a = row_out [] head_most (head_numbers a)

abbrev pub head_rows : GeneralHead → Rows
head_rows a = put_row head_widths [] head_most (head_numbers a) no_rows

-- ---- A SATELLITE, 32 + d bits: satellite 6, UDRE 4, IOD 8, PRC 14, delay d

-- THE WIDTH OF THE DELAY, the one number in which the two layouts differ: 12 bits with ionosphere, none without
abbrev pub delay_width : ℕ → ℕ
delay_width ionosphere = cond (eqb ionosphere 0) 0 12

abbrev pub widths : ℕ → List ℕ
widths d = 6 ∷ 4 ∷ 8 ∷ 14 ∷ d ∷ []

-- a delay of no bits is 0
abbrev pub meant : List ℕ → General
meant vs = record {
  satellite = get_or vs 0 0;
  udre = get_or vs 1 0;
  iod = get_or vs 2 0;
  prc = signed 13 (get_or vs 3 0);
  delay = get_or vs 4 0;
}

-- a satellite's numbers, in the order of the fields
abbrev pub numbers : General → List ℕ
numbers g = row (g.satellite ∷ g.udre ∷ g.iod ∷ code_within 13 g.prc ∷ g.delay ∷ [])

abbrev pub coding : ℕ → Coding General
coding d = record { widths = widths d; meant = meant; codes = λ g. codes_of (widths d) (numbers g) }

-- REFUSAL 10: satellite not 1 to 63, UDRE over 15, PRC outside 14 bits, a delay over its width: without ionosphere any but 0
abbrev pub least : List ℕ
least = 1 ∷ []

abbrev pub most : ℕ → List ℕ
most d = 63 ∷ 15 ∷ 255 ∷ 16383 ∷ (2 ^ d - 1) ∷ []

abbrev pub out_of_range : ℕ → General → Bool
out_of_range d g = row_out least (most d) (numbers g)

-- of a satellite that is read its number alone can be outside: 0
abbrev pub no_satellite : General → Bool
no_satellite g = eqb g.satellite 0

-- the fill: 1 and 0 in turn, 1 first wherever it starts
abbrev pub fill : ℕ
fill = 0xAAAAAA

-- ---- the answers

-- the first 8: no data word, or one of type 41; one word of type 42 is null
abbrev pub too_short : ℕ → ℕ → Bool
too_short kind n = eqb n 0 || (eqb kind 41 && eqb n 1)

abbrev pub list_size : ℕ → ℕ → Result (Unit {0}) Refusal
list_size kind n = cond (too_short kind n) (refused 8) granted

-- the width of the delay that a frame's head says
abbrev pub delay_in : Frame → ℕ
delay_in f = delay_width (head_in f).ionosphere

-- before the list: 5, 6, 7, 8, 23
abbrev pub staged_by : Frame → Staged
staged_by f =
    in_order (read_order layout.General f (too_short f.header.kind f.n) ((other_system (head_in f).system, 23) ∷ [])) staged.Refused
    (staged.List (delay_in f))

-- THE LIST: 5, 6, 7, 8, 23, 8 for an N that its layout doesn't give, then more
abbrev pub list_order : Frame → List Check → List Check
list_order f more =
    read_order layout.General f (too_short f.header.kind f.n)
    ((other_system (head_in f).system, 23) ∷ (misfit_after 13 (32 + delay_in f) f.n, 8) ∷ more)

abbrev pub generals_held : Frame → ℕ
generals_held f = held_after 13 (32 + delay_in f) f.n

-- COUNT and HEAD: 5, 6, 7, 8, 23, 8
unfoldable pub count_generals : Frame → Count
count_generals f = in_order (list_order f []) count.Refused (count.Of (generals_held f))

unfoldable pub read_head : Frame → HeadRead
read_head f = in_order (list_order f []) head.Refused (head.Head (head_in f))

-- SATELLITE: 5, 6, 7, 8, 23, 8, 9, 10
abbrev pub general_in : Frame → ℕ → General
general_in f i = entry_after 13 (coding (delay_in f)) i (frame_bits f)

-- by a width of the delay: 5, 6, 7, 8, 9, 10
abbrev pub entry_read : ℕ → Frame → ℕ → GeneralRead
entry_read d f i =
    let g = entry_after 13 (coding d) i (frame_bits f) in
    in_order (headed_order layout.General 13 (32 + d) f i ((no_satellite g, 10) ∷ [])) read.Refused (read.Entry g)

unfoldable pub general_at : Frame → ℕ → GeneralRead
general_at f i =
    in_order (list_order f ((leb (generals_held f) i, 9) ∷ (no_satellite (general_in f i), 10) ∷ [])) read.Refused (read.Entry (general_in f i))

-- THE MOST SATELLITES, as many as 31 words hold: 22 without a delay, 16 with one
abbrev pub most_generals : ℕ → ℕ
most_generals d = held_after 13 (32 + d) 31

-- MAKING: 5, 6, 7, 23, 12, 10
unfoldable pub make_generals : Header → GeneralHead → List General → ℕ → Made
make_generals h a gs c =
    let d = delay_width a.ionosphere in
    in_order (make_order layout.General h ((other_system a.system, 23)
    ∷ (wrong_count (most_generals d) c, 12) ∷ (head_out a || any_of (out_of_range d) (take c gs), 10) ∷ [])) refused_made
    (done_made (frame_after (head_bits a) fill (coding d) h (take c gs)))

-- ---- in the table's terms

abbrev pub says_head_read : HeadRead → Says GeneralHead
says_head_read (head.Head a) = answers a
says_head_read (head.Refused n) = refuses n

abbrev pub says_general_read : GeneralRead → Says General
says_general_read (read.Entry g) = answers g
says_general_read (read.Refused n) = refuses n
