-- What every form of record shares: a mark, N, and k bytes for each of the N + 2 words. Reading one begins with the order 14, 15, 16, 15.
-- Assumes nothing.
use Rattle.std.specs.Prelude.{Bool, not, ◌&&◌, ◌||◌, List, [], ◌∷◌, ◌++◌, ℕ, suc, ◌+◌, ◌*◌, ltb, eqb, length, drop, get_or}
use Rattle.answer.specs.Order.{Says, refuses, answers, Check, in_order}
use Rattle.journal.specs.Bytes.{written, words_from}
use Rattle.journal.specs.declared.form.Start.{Start}
use Rattle.journal.specs.declared.form.Start.TheVariants.{N, Refused}

-- the mark: 0x52, then the form's own byte
abbrev pub mark : ℕ → List ℕ
mark form = 0x52 ∷ form ∷ []

-- a record of N and its words
abbrev pub record_with : ℕ → ℕ → ℕ → List ℕ → List ℕ
record_with form k n ws = mark form ++ (n ∷ written k ws)

-- how many bytes a record has
abbrev pub length_with : ℕ → ℕ → ℕ
length_with k n = k * n + (2 * k + 3)

-- the N byte
abbrev pub n_byte : List ℕ → ℕ
n_byte bs = get_or bs 2 0

-- the N + 2 words after it
abbrev pub words_after : ℕ → List ℕ → List ℕ
words_after k bs = words_from k (suc (suc (n_byte bs))) (drop 3 bs)

-- REFUSAL 14: the bytes do not begin with the mark of the form
unfoldable pub unmarked : ℕ → List ℕ → Bool
unmarked form bs = ltb (length bs) 2 || not (eqb (get_or bs 0 0) 0x52 && eqb (get_or bs 1 0) form)

-- 14; 15 where there is no byte for N; 16 where N is above 31; 15 where words are missing
abbrev pub start_order : ℕ → ℕ → List ℕ → List Check
start_order form k bs =
    (unmarked form bs, 14) ∷ (ltb (length bs) 3, 15) ∷ (ltb 31 (n_byte bs), 16) ∷ (ltb (length bs) (length_with k (n_byte bs)), 15) ∷ []

-- N of the record at the start of the bytes
abbrev pub start_by : ℕ → ℕ → List ℕ → Start
start_by form k bs = in_order (start_order form k bs) Refused (N (n_byte bs))

-- in the table's terms
abbrev pub says_start : Start → Says ℕ
says_start (N n) = answers n
says_start (Refused number) = refuses number
