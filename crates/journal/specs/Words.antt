-- The journal that keeps the words. A record is its mark, N, and four bytes for each of the N + 2 words: the two carried bits before it, then its
-- thirty, the first sent highest: 4N + 11 bytes. Keeping refuses in the order 5, 13; recalling in the order 14, 15, 16, 15, 16, 17. And recalling a
-- record of either form. Assumes nothing.
use Rattle.std.specs.Prelude.{Bool, false, cond, not, ◌||◌, List, [], ◌∷◌, ◌++◌, map, ℕ, ◌+◌, ◌*◌, ◌/◌, ◌%◌, ◌^◌, ltb, eqb, length, drop, get_or}
use Rattle.answer.specs.Order.{Check, in_order}
use Rattle.bits.specs.Bits.{bits, number}
use Rattle.word.specs.Word.{data_of, passes}
use Rattle.word.specs.Answer.{sent_at}
use Rattle.frame.specs.Frames.{after_pair, words_of, frame_of}
use Rattle.frame.specs.Widths.{outside}
use Rattle.frame.specs.declared.Carried.{Carried}
use Rattle.frame.specs.declared.Frame.{Frame}
use Rattle.journal.specs.Forms.{record_with, n_byte, words_after, start_order}
use Rattle.journal.specs.Journal.{data_order, refused_recall, recall_order, recalled_by}
use Rattle.journal.specs.declared.Kept.{Kept}
use Rattle.journal.specs.declared.Kept.TheVariants as kept
use Rattle.journal.specs.declared.Found.TheVariants as found
use Rattle.journal.specs.declared.Recalled.{Recalled}

-- ---- carried bits as a number of two bits, D29* the higher

abbrev pub pair_number : Carried → ℕ
pair_number k = k.d29 * 2 + k.d30

abbrev pub pair_numbered : ℕ → Carried
pair_numbered c = record { d29 = c / 2; d30 = c % 2 }

-- ---- keep

-- a word sent after the carried bits c: these, then its thirty bits
unfoldable pub window_of : ℕ → ℕ → ℕ
window_of c w = c * 2 ^ 30 + number (sent_at c w)

-- words sent one after the other: the last two bits of each are the carried bits of the next
unfoldable pub windows_from : ℕ → List ℕ → List ℕ
windows_from c [] = []
windows_from c (w ∷ ws) = window_of c w ∷ windows_from (window_of c w % 4) ws

-- the record of a frame, which starts from its own pair: mark 0x52 0x34, N, four bytes a word
unfoldable pub words_record : Frame → List ℕ
words_record f = record_with 0x34 4 f.n (windows_from (pair_number f.carried) (words_of f))

-- 5, 13; any Z count is kept
abbrev pub keep_words_order : Frame → List ℕ → List Check
keep_words_order f buffer = (outside f, 5) ∷ (ltb (length buffer) (4 * f.n + 11), 13) ∷ []

-- KEEP THE WORDS: the length of the record
abbrev pub kept_words : Frame → List ℕ → Kept
kept_words f buffer = in_order (keep_words_order f buffer) kept.Refused (kept.Done (4 * f.n + 11))

-- what the lent buffer then holds: the record's bytes, and past them what it held before; on a refusal what it held before
abbrev pub held_words : Frame → List ℕ → List ℕ
held_words f buffer = in_order (keep_words_order f buffer) (λ n. buffer) (words_record f ++ drop (4 * f.n + 11) buffer)

-- ---- recall

-- the data of kept words, polarity undone by each word's own D30*
abbrev pub data_in : List ℕ → List ℕ
data_in vs = map (λ v. number (data_of (bits 32 v))) vs

-- REFUSAL 17, of kept words after the bits c: carried bits that do not repeat these, or a word that fails parity
unfoldable pub broken_after : ℕ → List ℕ → Bool
broken_after c [] = false
broken_after c (v ∷ vs) = not (eqb (v / 2 ^ 30) c) || (not (passes (bits 32 v)) || broken_after (v % 4) vs)

-- the carried bits of a record: those of its first word, which may be any, since there is no word before it
abbrev pub carried_in : List ℕ → ℕ
carried_in vs = get_or vs 0 0 / 2 ^ 30

abbrev pub broken : List ℕ → Bool
broken vs = broken_after (carried_in vs) vs

-- 14, 15, 16, 15, then 16 by the data of words 1 and 2, then 17
abbrev pub live_order : ℕ → List ℕ → List Check
live_order n vs = data_order n (data_in vs) ++ ((broken vs, 17) ∷ [])

abbrev pub recall_words_order : List ℕ → List Check
recall_words_order bs = start_order 0x34 4 bs ++ live_order (n_byte bs) (words_after 4 bs)

-- what is found for N and the N + 2 kept words: the frame of their data, after the record's carried bits
abbrev pub found_words : ℕ → List ℕ → Recalled
found_words n vs = record { answer = found.Record (4 * n + 11); frame = after_pair (pair_numbered (carried_in vs)) (frame_of (data_in vs)) }

-- RECALL THE WORDS: one record at the start of the bytes, its length and its frame with its pair; what follows it is ignored
abbrev pub recalled_words : List ℕ → Recalled
recalled_words bs = in_order (recall_words_order bs) refused_recall (found_words (n_byte bs) (words_after 4 bs))

-- its part once the record is known to be whole
abbrev pub live_in : ℕ → List ℕ → Recalled
live_in n vs = in_order (live_order n vs) refused_recall (found_words n vs)

-- ---- either form

-- the form of a record: one with the mark 0x52 0x34 keeps the words, any other is read as data
abbrev pub keeps_words : List ℕ → Bool
keeps_words bs = eqb (get_or bs 1 0) 0x34

-- that of the form; 17 is of words alone
abbrev pub recall_either_order : List ℕ → List Check
recall_either_order bs = cond (keeps_words bs) (recall_words_order bs) (recall_order bs ++ ((false, 17) ∷ []))

-- RECALL EITHER: the record at the start of the bytes, by its form
abbrev pub recalled_either : List ℕ → Recalled
recalled_either bs = cond (keeps_words bs) (recalled_words bs) (recalled_by bs)
