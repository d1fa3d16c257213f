-- NUMBERS AS TEXT, in ASCII codes, and what putting text into a buffer answers and leaves. Assumes nothing.
use Rattle.std.specs.Prelude.{Result, Ok, cond, List, [], ◌∷◌, ◌++◌, ℕ, zero, suc, ◌+◌, ◌/◌, ◌%◌, ℤ, pos, negsuc, ltb, length}
use Rattle.std.proofs.lemmas.List.Edits.{sets}
use Rattle.answer.specs.Order.{Says, Check, in_order, says}
use Rattle.answer.specs.Table.{refused}
use Rattle.answer.specs.declared.Refusal.{Refusal}

-- ---- a number

-- how far a signed number is from 0
abbrev pub magnitude_of : ℤ → ℕ
magnitude_of (pos n) = n
magnitude_of (negsuc k) = suc k

-- the last k decimal digits, the highest first
unfoldable pub last_digits : ℕ → ℕ → List ℕ
last_digits zero n = []
last_digits (suc k) n = last_digits k (n / 10) ++ ((48 + n % 10) ∷ [])

-- how many digits a number has, counted up to k
unfoldable pub digits_up_to : ℕ → ℕ → ℕ
digits_up_to zero n = zero
digits_up_to (suc k) n =
    let more = suc (digits_up_to k (n / 10)) in
    cond (ltb n 10) 1 more

-- DECIMAL, with no zero before the first digit; every number below 2^64 has at most twenty digits
unfoldable pub decimal : ℕ → List ℕ
decimal n = last_digits (digits_up_to 20 n) n

-- ---- PRINTED into a buffer, from a place on: 13

abbrev pub print_order : List ℕ → ℕ → List ℕ → List Check
print_order text place buffer = (ltb (length buffer) (place + length text), 13) ∷ []

-- the place after it
unfoldable pub printed_by : List ℕ → ℕ → List ℕ → Result ℕ Refusal
printed_by text place buffer = in_order (print_order text place buffer) refused (Ok (place + length text))

-- the buffer after it
unfoldable pub printed_to : List ℕ → ℕ → List ℕ → List ℕ
printed_to text place buffer = in_order (print_order text place buffer) (λ n. buffer) (sets buffer place text)

-- in the table's terms
abbrev pub says_printed : Result ℕ Refusal → Says ℕ
says_printed = says (λ place. place)
