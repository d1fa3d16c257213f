-- Two's complement, over the width: a field of h + 1 bits holds a number from - 2 ^ h to 2 ^ h - 1. Assumes nothing.
use Rattle.std.specs.Prelude.{cond, ℕ, suc, ◌-◌, ◌^◌, ℤ, pos, negsuc, ltb}

-- the number that a code means
unfoldable pub signed : ℕ → ℕ → ℤ
signed h n = cond (ltb n (2 ^ h)) (pos n) (negsuc (2 ^ suc h - suc n))

-- the code of a number
unfoldable pub code : ℕ → ℤ → ℕ
code h (pos n) = n
code h (negsuc n) = 2 ^ suc h - suc n
