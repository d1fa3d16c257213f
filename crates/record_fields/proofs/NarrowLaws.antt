-- A signed number in fewer bits than its type has: where it is in their range, its code is theirs. Assumes nothing.
use mathlib.Core.Path.{◌≡◌, refl}
use mathlib.Core.Bool.{Bool, true, false, cond}
use Prim.Native.Nat.{ℕ, suc, ◌^◌, ◌≤◌, ◌<◌}
use native.Mathlib.Omega.{arith}
use lib.Dec.{ltb}
use lib.IntN.{ℤ}
use lib.Signed.{mag}
use borrow.Author.Tests.{ltb-true, lt-ltb, le-ltb}
use Rattle.bits.specs.Signed.{code}
use Rattle.record_fields.specs.Narrow.{code_within}

pub within-code : (h : ℕ) (z : ℤ) → mag z < 2 ^ h → code_within h z ≡ code h z
unfolding code_within
within-code h z l = rw (lt-ltb (mag z) (2 ^ h) l)

pub without-code : (h : ℕ) (z : ℤ) → 2 ^ h ≤ mag z → code_within h z ≡ 2 ^ suc h
unfolding code_within
without-code h z l = rw (le-ltb (mag z) (2 ^ h) l)

-- a code that the bits hold is that of a number in their range
pub within-told : (h : ℕ) (z : ℤ) → code_within h z < 2 ^ suc h → mag z < 2 ^ h
unfolding code_within
within-told h z l = go (ltb (mag z) (2 ^ h)) refl
  where
    go : (t : Bool) → ltb (mag z) (2 ^ h) ≡ t → mag z < 2 ^ h
    go true e = ltb-true (mag z) (2 ^ h) e
    go false e = absurd (omega (arith, kept))
      where
        kept : cond (ltb (mag z) (2 ^ h)) (code h z) (2 ^ suc h) ≡ 2 ^ suc h
        kept = rw e
