-- A signed number in fewer bits than its type has: its code, or a number that they can't hold. Assumes nothing.
use Rattle.std.specs.Prelude.{cond, ℕ, suc, ◌^◌, ltb, ℤ}
use Rattle.std.specs.Int.Signed.{mag}
use Rattle.bits.specs.Signed.{code}

-- the code of h + 1 bits; two to the h + 1 for a number below - 2 ^ h or from 2 ^ h on
unfoldable pub code_within : ℕ → ℤ → ℕ
code_within h z = cond (ltb (mag z) (2 ^ h)) (code h z) (2 ^ suc h)
