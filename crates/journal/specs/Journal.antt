-- The journal. A record is its mark, N, and three bytes for the data of each of the N + 2 words: 3N + 9 bytes.
-- Keeping refuses in the order 5, 13; recalling in the order 14, 15, 16, 15, 16. Assumes nothing.
use Rattle.std.specs.Prelude.{not, Option, None, Some, List, [], ◌∷◌, ◌++◌, ℕ, ◌+◌, ◌*◌, ltb, eqb, length, drop, get_or}
use Rattle.answer.specs.Order.{Says, refuses, answers, Check, in_order}
use Rattle.bits.specs.Bits.{bits}
use Rattle.frame.specs.Header.{n_of, preambled, header_of}
use Rattle.frame.specs.Frames.{words_of, frame_of, blank}
use Rattle.frame.specs.Widths.{header_outside, outside}
use Rattle.frame.specs.declared.Header.{Header}
use Rattle.frame.specs.declared.Frame.{Frame}
use Rattle.journal.specs.Forms.{record_with, n_byte, words_after, start_order}
use Rattle.journal.specs.declared.Kept.{Kept}
use Rattle.journal.specs.declared.Kept.TheVariants as kept
use Rattle.journal.specs.declared.Found.{Found}
use Rattle.journal.specs.declared.Found.TheVariants as found
use Rattle.journal.specs.declared.Recalled.{Recalled}

-- ---- keep

-- the record of a frame: mark 0x52 0x32, N, three bytes a word; its pair is not kept
unfoldable pub record_of : Frame → List ℕ
record_of f = record_with 0x32 3 f.n (words_of f)

-- 5 of its header and N alone, 13
abbrev pub record_order : Frame → List ℕ → List Check
record_order f buffer = (header_outside f.header, 5) ∷ (ltb 31 f.n, 5) ∷ (ltb (length buffer) (3 * f.n + 9), 13) ∷ []

-- PUT: the record of a frame, 24 bits of each data word as it is; and what the lent buffer then holds
abbrev pub recorded_by : Frame → List ℕ → Kept
recorded_by f buffer = in_order (record_order f buffer) kept.Refused (kept.Done (3 * f.n + 9))

abbrev pub recorded_to : Frame → List ℕ → List ℕ
recorded_to f buffer = in_order (record_order f buffer) (λ n. buffer) (record_of f ++ drop (3 * f.n + 9) buffer)

-- 5, 13; any Z count is kept
abbrev pub keep_order : Frame → List ℕ → List Check
keep_order f buffer = (outside f, 5) ∷ (ltb (length buffer) (3 * f.n + 9), 13) ∷ []

-- KEEP: the length of the record
abbrev pub kept_by : Frame → List ℕ → Kept
kept_by f buffer = in_order (keep_order f buffer) kept.Refused (kept.Done (3 * f.n + 9))

-- what the lent buffer then holds: the record's bytes, and past them what it held before; on a refusal what it held before
abbrev pub held_by : Frame → List ℕ → List ℕ
held_by f buffer = in_order (keep_order f buffer) (λ n. buffer) (record_of f ++ drop (3 * f.n + 9) buffer)

-- ---- recall

-- the last 16: an N unequal to N of word 2, or a wrong preamble
abbrev pub data_order : ℕ → List ℕ → List Check
data_order n ws = (not (eqb n (n_of (bits 24 (get_or ws 1 0)))), 16) ∷ (not (preambled (bits 24 (get_or ws 0 0))), 16) ∷ []

-- a refusal, beside the blank frame; and what is found for N and the data of the N + 2 words
abbrev pub refused_recall : ℕ → Recalled
refused_recall number = record { answer = found.Refused number; frame = blank }

abbrev pub recalled : ℕ → List ℕ → Recalled
recalled n ws = record { answer = found.Record (3 * n + 9); frame = frame_of ws }

-- 14, 15, 16, 15, then 16
abbrev pub recall_order : List ℕ → List Check
recall_order bs = start_order 0x32 3 bs ++ data_order (n_byte bs) (words_after 3 bs)

-- RECALL: one record at the start of the bytes, its length and its frame, which has carried bits 00; what follows it is ignored
abbrev pub recalled_by : List ℕ → Recalled
recalled_by bs = in_order (recall_order bs) refused_recall (recalled (n_byte bs) (words_after 3 bs))

-- the header of words 1 and 2; none where the last 16 applies
abbrev pub header_found : ℕ → ℕ → ℕ → Option Header
header_found n first second =
    in_order (data_order n (first ∷ second ∷ [])) (λ number. None) (Some (header_of (bits 24 first) (bits 24 second)))

-- its part once the record is known to be whole
abbrev pub frame_in : ℕ → List ℕ → Recalled
frame_in n ws = in_order (data_order n ws) refused_recall (recalled n ws)

-- ---- in the table's terms

abbrev pub says_kept : Kept → Says ℕ
says_kept (kept.Done length) = answers length
says_kept (kept.Refused number) = refuses number

abbrev pub says_found : Found → Frame → Says (ℕ × Frame)
says_found (found.Record length) f = answers (length, f)
says_found (found.Refused number) f = refuses number

abbrev pub says_recalled : Recalled → Says (ℕ × Frame)
says_recalled r = says_found r.answer r.frame
