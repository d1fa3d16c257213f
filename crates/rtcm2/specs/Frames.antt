-- A frame comes in as its journal record, and goes out as one at the start of the bytes that are lent for it. Assumes nothing.
use Rattle.std.specs.Prelude.{not, List, [], ◌∷◌, ℕ, ◌/◌, ◌%◌, ltb, eqb, length}
use Rattle.answer.specs.Order.{Says, refuses, answers, in_order}
use Rattle.frame.specs.Header.{code_of}
use Rattle.frame.specs.Frames.{framed}
use Rattle.frame.specs.declared.Header.{Header}
use Rattle.frame.specs.declared.Frame.{Frame}
use Rattle.journal.specs.Bytes.{words_from}
use Rattle.journal.specs.Journal.{recalled_by, says_recalled, kept_by, held_by, says_kept}
use Rattle.rtcm2.specs.Answer.{left, and_then}
use Rattle.rtcm2.specs.Header.{headed}

-- ---- a frame goes out

-- KEPT: the refusal that there was, or the length of the frame's record; 13 where the bytes are too few
abbrev pub kept_to : Says Frame → List ℕ → Says ℕ
kept_to said buffer = and_then said (λ f. says_kept (kept_by f buffer))

-- what the bytes then hold: the record and past it what they held, or on a refusal what they held
abbrev pub held_to : Says Frame → List ℕ → List ℕ
held_to said buffer = left said (λ f. held_by f buffer) buffer

-- the length that is left: that of the record, or on a refusal what it was
abbrev pub size_to : Says Frame → List ℕ → ℕ → ℕ
size_to said buffer size = left (kept_to said buffer) (λ k. k) size

-- ---- a frame of any type, from the bytes of its data words, three each

-- 5 for bytes that are no whole number of words, and for over 31 words
abbrev pub words_said : Header → List ℕ → Says Frame
words_said h bytes =
    in_order ((not (eqb (length bytes % 3) 0), 5) ∷ (ltb 31 (length bytes / 3), 5) ∷ []) refuses
    (answers (framed h (words_from 3 (length bytes / 3) bytes)))

-- KEEPING: 5 for a health over 7 too
abbrev pub keep_said : ℕ → ℕ → ℕ → ℕ → ℕ → List ℕ → Says Frame
keep_said kind station z sequence health bytes = and_then (headed kind station z sequence health) (λ h. words_said h bytes)

-- ---- a frame comes in

-- RECALLING: the length and the frame of the record at the start of the bytes; 14, 15, 16, 15, 16
abbrev pub recall_said : List ℕ → Says (ℕ × Frame)
recall_said bytes = says_recalled (recalled_by bytes)

-- the frame alone
abbrev pub frame_said : List ℕ → Says Frame
frame_said bytes = and_then (recall_said bytes) (λ r. answers r.1)

-- its numbers
abbrev pub kind_said : ℕ × Frame → ℕ
kind_said r = r.1.header.kind

abbrev pub station_said : ℕ × Frame → ℕ
station_said r = r.1.header.station

abbrev pub z_count_said : ℕ × Frame → ℕ
z_count_said r = r.1.header.z

abbrev pub sequence_said : ℕ × Frame → ℕ
sequence_said r = r.1.header.sequence

abbrev pub health_said : ℕ × Frame → ℕ
health_said r = code_of r.1.header.state

abbrev pub n_said : ℕ × Frame → ℕ
n_said r = r.1.n

abbrev pub length_said : ℕ × Frame → ℕ
length_said r = r.0
