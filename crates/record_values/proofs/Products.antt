-- Signed products in two's complement, over the widths: they fit, so what a machine holds is the mathematical product, exact at both ends.
-- Assumes nothing.
use mathlib.Core.Path.{◌≡◌, refl, sym, ap, ap₂, subst, ◌∙◌}
use Prim.Native.Nat.{ℕ, zero, suc, ◌+◌, ◌*◌, ◌^◌, ◌≤◌, ◌<◌}
use native.Mathlib.Nat.{mul-le-mul_right, mul-lt-mul_of_pos_left}
use native.Mathlib.Omega.{arith}
use lib.IntN.{ℤ, pos, negsuc, neg_ℤ, nat_abs, ◌*ℤ◌}
use lib.Pow.{pow_pos, pow_mono, pow-add}
use lib.Signed.{mag, nat_abs-le}
use mir.Syntax.{Width}
use mir.Val.{hbits, SFits, to_z, of_z}
use mir.ValLaws.{to_z-of_z, to_z_pos}

-- ---- numbers

-- signs aside, a product is a product
pub abs-product : (z : ℤ) (k : ℕ) → nat_abs (z *ℤ pos k) ≡ nat_abs z * k
abs-product (pos n) k = refl
abs-product (negsuc n) k = go (suc n * k)
  where
    go : (m : ℕ) → nat_abs (neg_ℤ (pos m)) ≡ m
    go zero = refl
    go (suc m) = refl

mag-le : (z : ℤ) → mag z ≤ nat_abs z
mag-le (pos n) = omega arith
mag-le (negsuc n) = omega arith

-- a signed number of a + 1 bits times a number of b bits is a signed number of a + b + 1 bits
product-below : (a b : ℕ) (z : ℤ) (k : ℕ) → mag z < 2 ^ a → k < 2 ^ b → mag (z *ℤ pos k) < 2 ^ (a + b)
product-below a b z k h l =
    omega (
      arith,
      mag-le (z *ℤ pos k),
      abs-product z k,
      mul-le-mul_right {m = nat_abs z} {n = 2 ^ a} k (nat_abs-le z h),
      mul-lt-mul_of_pos_left {m = k} {n = 2 ^ b} {k = 2 ^ a} l (pow_pos a),
      pow-add 2 a b,
    )

-- ---- what a machine holds

-- a number of width v, cast to a width w that is not narrower
module _ (v w : Width) (z : ℤ) (f : SFits v z) (h : hbits v ≤ hbits w) where
  wider : SFits w z
  wider = record { sfits = omega (arith, f.sfits, pow_mono h) }

  pub cast_fits : SFits w (to_z v (of_z v z))
  cast_fits = rw (to_z-of_z v z f) wider

  pub cast_is : to_z w (of_z w (to_z v (of_z v z))) ≡ z
  cast_is = ap (λ (x : ℤ). to_z w (of_z w x)) (to_z-of_z v z f) ∙ to_z-of_z w z wider

-- a number of width v times one of b bits, at a width w that has room for both
module _ (v w : Width) (b : ℕ) (z : ℤ) (k : ℕ) (f : SFits v z) (l : k < 2 ^ b) (room : hbits v + b ≤ hbits w) where
  operands : to_z w (of_z w (to_z v (of_z v z))) *ℤ to_z w k ≡ z *ℤ pos k
  operands = ap₂ ◌*ℤ◌ (cast_is v w z f (omega arith)) (to_z_pos w k (omega (arith, pow_mono {i = b} {j = hbits w} (omega arith))))

  pub product-fits : SFits w (to_z w (of_z w (to_z v (of_z v z))) *ℤ to_z w k)
  product-fits = subst (SFits w) (sym operands) (record { sfits = omega (arith, product-below (hbits v) b z k f.sfits l, pow_mono room) })

  pub product_is : to_z w (of_z w (to_z w (of_z w (to_z v (of_z v z))) *ℤ to_z w k)) ≡ z *ℤ pos k
  product_is = to_z-of_z w _ product-fits ∙ operands

-- a product of two results that a call returned, read back
pub read_back_lem : (w : Width) {r x z : ℤ} {k step : ℕ} → SFits w r → r ≡ x *ℤ pos k → x ≡ z → k ≡ step → to_z w (of_z w r) ≡ z *ℤ pos step
read_back_lem w {r} f e p q = to_z-of_z w r f ∙ e ∙ ap₂ (λ (a : ℤ) (b : ℕ). a *ℤ pos b) p q
