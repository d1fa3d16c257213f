-- What every call of the library has in common: it answers 0 or the refusal's number, and a refusal leaves each lent place as it was.
-- Assumes nothing.
use Rattle.std.specs.Prelude.{ℕ}
use Rattle.answer.specs.Order.{Says, refuses, answers}

-- 0, or the refusal's number
abbrev pub number_of : {A : Type 0} → Says A → ℕ
number_of (answers a) = 0
number_of (refuses n) = n

-- what a lent place holds after a call: what its answer puts there, or on a refusal what it held
abbrev pub left : {A B : Type 0} → Says A → (A → B) → B → B
left (answers a) put held = put a
left (refuses n) put held = held

-- one stage after another: the refusal of the first, or what the second says of its answer
abbrev pub and_then : {A B : Type 0} → Says A → (A → Says B) → Says B
and_then (answers a) next = next a
and_then (refuses n) next = refuses n
