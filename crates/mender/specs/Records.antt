-- The record at a mark: which N counts, where it ends, and its bytes after mending. Assumes nothing.
use Rattle.std.specs.Prelude.{ℕ, suc, ◌+◌, ◌*◌, Bool, true, false, cond, not, ◌&&◌, ◌||◌, List, [], ◌∷◌, map, length, take, drop, nat_lt, Result, Ok, Err}
use Rattle.bits.specs.Bits.{bits}
use Rattle.word.specs.Word.{data_of}
use Rattle.frame.specs.Header.{n_of}
use Rattle.journal.specs.Bytes.{word_in, words_from}
use Rattle.journal.specs.Forms.{record_with, n_byte}
use Rattle.journal.specs.Words.{recalled_words}
use Rattle.journal.specs.declared.Found.{Found}
use Rattle.journal.specs.declared.Found.TheVariants as found
use Rattle.mender_words.specs.Words.{mended_by, broken_word, mended_to}
use Rattle.mender_words.specs.declared.MendedWord.{MendedWord}
use Rattle.mender_words.specs.declared.MendedWord.TheVariants.{Sound, Mended, Broken}
use Rattle.mender.specs.declared.record.NoEnd.{NoEnd}
use Rattle.mender.specs.declared.record.NoEnd.TheVariants.{Cut, Numberless}

-- ---- N

-- N of a kept word 2
abbrev pub n_in : ℕ → ℕ
n_in v = n_of (data_of (bits 32 v))

-- N as word 2 says it where it is sound or mended, else the N byte
abbrev pub counted_by : ℕ → ℕ → MendedWord → ℕ
counted_by v byte Sound = n_in v
counted_by v byte (Mended u) = n_in u
counted_by v byte Broken = byte

-- word 2 of a record
abbrev pub second_of : List ℕ → ℕ
second_of bs = word_in (take 4 (drop 7 bs))

unfoldable pub count_of : List ℕ → ℕ
count_of bs = counted_by (second_of bs) (n_byte bs) (mended_by (second_of bs))

-- WHERE IT ENDS: cut short where the bytes end before it, and no record has fewer than 11; none where N is over 31
unfoldable pub extent_of : List ℕ → Result ℕ NoEnd
extent_of bs =
    cond (nat_lt (length bs) 11) (Err Cut) (cond (nat_lt 31 (count_of bs)) (Err Numberless) (cond (nat_lt (length bs) (4 * count_of bs + 11)) (Err Cut) (Ok (count_of bs))))

-- ---- the record of n

-- its words as they are kept
abbrev pub windows_of : ℕ → List ℕ → List ℕ
windows_of n bs = words_from 4 (suc (suc n)) (drop 3 bs)

-- a word of them can't be mended
unfoldable pub spoilt : List ℕ → Bool
spoilt [] = false
spoilt (v ∷ vs) = broken_word (mended_by v) || spoilt vs

-- its bytes after mending: its mark, n, and each word mended
unfoldable pub record_for : ℕ → List ℕ → List ℕ
record_for n bs = record_with 0x34 4 n (map mended_to (windows_of n bs))

-- bytes that read as a record that keeps the words
abbrev pub is_record : Found → Bool
is_record (found.Record size) = true
is_record (found.Refused number) = false

unfoldable pub reads : List ℕ → Bool
reads bs = is_record (recalled_words bs).answer

-- WHOLE: no word is broken, and after mending it reads
unfoldable pub whole : ℕ → List ℕ → Bool
whole n bs = not (spoilt (windows_of n bs)) && reads (record_for n bs)
