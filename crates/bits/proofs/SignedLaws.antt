-- Two's complement: number and code are inverse, at every width. Assumes nothing.
use mathlib.Core.Path.{◌≡◌, refl, ap}
use mathlib.Core.Bool.{Bool, true, false, cond, false≢true}
use Prim.Native.Nat.{ℕ, suc, ◌-◌, ◌^◌, ◌≤◌, ◌<◌}
use native.Mathlib.Nat.{pow-suc}
use native.Mathlib.Omega.{arith}
use lib.IntN.{ℤ, pos, negsuc}
use lib.Signed.{mag, lt_z}
use lib.Dec.{ltb}
use borrow.Author.Tests.{ltb-true, ltb-false, lt-ltb, le-ltb}
use Rattle.bits.specs.Signed.{signed, code}

pub code-signed : (h n : ℕ) → n < 2 ^ suc h → code h (signed h n) ≡ n
unfolding code signed
code-signed h n l = go (ltb n (2 ^ h)) refl
  where
    go : (t : Bool) → ltb n (2 ^ h) ≡ t → code h (cond t (pos n) (negsuc (2 ^ suc h - suc n))) ≡ n
    go true e = refl
    go false e = omega arith

pub signed-code : (h : ℕ) (z : ℤ) → mag z < 2 ^ h → signed h (code h z) ≡ z
unfolding code signed
signed-code h (pos n) l = rw (lt-ltb n (2 ^ h) l)
signed-code h (negsuc n) l = rw (le-ltb (2 ^ suc h - suc n) (2 ^ h) (omega (arith, pow-suc 2 h))) (ap negsuc back)
  where
    back : 2 ^ suc h - suc (2 ^ suc h - suc n) ≡ n
    back = omega (arith, pow-suc 2 h)

-- a number that a code means is in range, and a code fits its width
pub mag-signed : (h n : ℕ) → n < 2 ^ suc h → mag (signed h n) < 2 ^ h
unfolding signed
mag-signed h n l = go (ltb n (2 ^ h)) refl
  where
    go : (t : Bool) → ltb n (2 ^ h) ≡ t → mag (cond t (pos n) (negsuc (2 ^ suc h - suc n))) < 2 ^ h
    go true e = ltb-true n (2 ^ h) e
    go false e = omega (arith, ltb-false n (2 ^ h) e, pow-suc 2 h)

pub code_lt : (h : ℕ) (z : ℤ) → mag z < 2 ^ h → code h z < 2 ^ suc h
unfolding code
code_lt h (pos n) l = omega (arith, pow-suc 2 h)
code_lt h (negsuc n) l = omega (arith, pow-suc 2 h)

-- a number is outside h + 1 bits where it is below - 2 ^ h or above 2 ^ h - 1, and nowhere else
module _ (h k : ℕ) (half : suc k ≡ 2 ^ h) where
  pub below-width : (z : ℤ) → lt_z z (negsuc k) ≡ true → 2 ^ h ≤ mag z
  below-width (pos n) t = absurd (false≢true t)
  below-width (negsuc n) t = omega (arith, half, ltb-true k n t)

  pub above-width : (z : ℤ) → lt_z (pos k) z ≡ true → 2 ^ h ≤ mag z
  above-width (pos n) t = omega (arith, half, ltb-true k n t)
  above-width (negsuc n) t = absurd (false≢true t)

  pub in-width : (z : ℤ) → lt_z z (negsuc k) ≡ false → lt_z (pos k) z ≡ false → mag z < 2 ^ h
  in-width (pos n) l u = omega (arith, half, ltb-false k n u)
  in-width (negsuc n) l u = omega (arith, half, ltb-false k n l)
