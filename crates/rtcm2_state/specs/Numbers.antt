-- Numbers kept as four bytes each, low byte first. Assumes nothing.
use Rattle.std.specs.Prelude.{List, [], ◌∷◌, ◌++◌, ℕ, zero, suc, ◌+◌, ◌*◌, ◌/◌, ◌%◌, take, drop}

-- the k low bytes of a number, the lowest first
unfoldable pub low_bytes : ℕ → ℕ → List ℕ
low_bytes zero n = []
low_bytes (suc k) n = n % 256 ∷ low_bytes k (n / 256)

-- the number that bytes write, the lowest first
unfoldable pub number_in : List ℕ → ℕ
number_in [] = 0
number_in (b ∷ bs) = b + 256 * number_in bs

-- numbers one after the other, four bytes each
unfoldable pub numbers_written : List ℕ → List ℕ
numbers_written [] = []
numbers_written (n ∷ ns) = low_bytes 4 n ++ numbers_written ns

-- the first n numbers of four bytes each
unfoldable pub numbers_in : ℕ → List ℕ → List ℕ
numbers_in zero bs = []
numbers_in (suc n) bs = number_in (take 4 bs) ∷ numbers_in n (drop 4 bs)
