-- PRC and RRC, over the width: the lowest number is stop, and every other one is the exact product, which reaches equally far both ways; a
-- correction stops its satellite where either is the lowest. Assumes nothing.
use mathlib.Core.Path.{◌≡◌, refl, sym, ap, ◌∙◌}
use mathlib.Core.Bool.{Bool, true, false, cond, ◌||◌, false≢true, or-true}
use mathlib.Core.Logic.{◌↔◌, ◌⊎◌, inl, inr}
use Prim.Native.Nat.{ℕ, zero, suc, ◌*◌, ◌-◌, ◌^◌, ◌≤◌, ◌<◌}
use native.Mathlib.Nat.{mul-le-mul_right}
use native.Mathlib.Omega.{arith}
use lib.Dec.{eqb}
use lib.IntN.{ℤ, pos, negsuc, neg_ℤ, nat_abs, ◌*ℤ◌}
use lib.Pow.{pow_pos}
use lib.Signed.{mag}
use mir.Syntax.{Width}
use mir.Val.{bits, hbits, SFits, of_z}
use mir.ValLaws.{pow-bits}
use borrow.Author.Tests.{eqb-true, eqb-false, eq-eqb, ne_eqb}
use Rattle.frame.proofs.WidthLaws.{both_false}
use Rattle.record_values.specs.Values.{exactly, stop, is_lowest, step_of, signed_value, stops_use}
use Rattle.record_values.proofs.Products.{abs-product}

-- ---- from the bits in which a machine holds a number

-- only the lowest number of h + 1 bits has the bits 1..10..0, with h zeros
pub lowest-within : (w : Width) (h : ℕ) (z : ℤ) → 2 ^ h ≤ 2 ^ hbits w → SFits w z → is_lowest h z ≡ eqb (of_z w z) (2 ^ bits w - 2 ^ h)
lowest-within w h (pos n) l f = sym (ne_eqb n (2 ^ bits w - 2 ^ h) (λ e. omega (arith, f.sfits, pow-bits w)))
lowest-within w h (negsuc n) l f = go (eqb (suc n) (2 ^ h)) refl
  where
    go : (t : Bool) → eqb (suc n) (2 ^ h) ≡ t → t ≡ eqb (2 ^ bits w - suc n) (2 ^ bits w - 2 ^ h)
    go true e = sym (eq-eqb (2 ^ bits w - suc n) (2 ^ bits w - 2 ^ h) (omega (arith, eqb-true (suc n) (2 ^ h) e)))
    go false e =
        sym (ne_eqb (2 ^ bits w - suc n) (2 ^ bits w - 2 ^ h) (λ q. eqb-false (suc n) (2 ^ h) e (omega (arith, f.sfits, pow-bits w))))

-- of all its bits: 10..0
pub lowest-bits : (w : Width) (z : ℤ) → SFits w z → is_lowest (hbits w) z ≡ eqb (of_z w z) (2 ^ hbits w)
lowest-bits w z f = lowest-within w (hbits w) z (omega arith) f ∙ ap (eqb (of_z w z)) half
  where
    half : 2 ^ bits w - 2 ^ hbits w ≡ 2 ^ hbits w
    half = omega (arith, pow-bits w)

module _ (w : Width) (small large scale : ℕ) (z : ℤ) (f : SFits w z) where
  pub signed-stop : of_z w z ≡ 2 ^ hbits w → signed_value (hbits w) small large scale z ≡ stop
  unfolding signed_value
  signed-stop e = rw (lowest-bits w z f, eq-eqb (of_z w z) (2 ^ hbits w) e)

  pub signed-exact : (of_z w z ≡ 2 ^ hbits w → ⊥) → signed_value (hbits w) small large scale z ≡ exactly (z *ℤ pos (step_of small large scale))
  unfolding signed_value
  signed-exact e = rw (lowest-bits w z f, ne_eqb (of_z w z) (2 ^ hbits w) e)

-- ---- for the numbers themselves

is-lowest : (h : ℕ) → is_lowest h (neg_ℤ (pos (2 ^ h))) ≡ true
is-lowest h = go (2 ^ h) refl (pow_pos h)
  where
    go : (m : ℕ) → 2 ^ h ≡ m → zero < m → is_lowest h (neg_ℤ (pos m)) ≡ true
    go zero e l = absurd (omega arith)
    go (suc m) e l = eq-eqb (suc m) (2 ^ h) (sym e)

only-lowest : (h : ℕ) (z : ℤ) → is_lowest h z ≡ true → z ≡ neg_ℤ (pos (2 ^ h))
only-lowest h (pos n) e = absurd (false≢true e)
only-lowest h (negsuc n) e = ap (λ (m : ℕ). neg_ℤ (pos m)) (eqb-true (suc n) (2 ^ h) e)

-- all numbers but the lowest lie strictly between -2^h and 2^h
abs-lt : (h : ℕ) (z : ℤ) → mag z < 2 ^ h → is_lowest h z ≡ false → nat_abs z < 2 ^ h
abs-lt h (pos n) l e = l
abs-lt h (negsuc n) l e = let other : suc n ≡ 2 ^ h → ⊥ = eqb-false (suc n) (2 ^ h) e in omega arith

-- which of the two a reading is
picked-stop : (t : Bool) (x : ℤ) → cond t stop (exactly x) ≡ stop → t ≡ true
picked-stop true x e = refl
picked-stop false x e = let no : ◌≡◌ {A = ℕ} 0 1 = cc in absurd (omega arith)

picked-exact : (t : Bool) (x v : ℤ) → cond t stop (exactly x) ≡ exactly v → (t ≡ false) × (v ≡ x)
picked-exact true x v e = let no : ◌≡◌ {A = ℕ} 0 1 = cc in absurd (omega arith)
picked-exact false x v e = (refl, cc)

module _ (h small large scale : ℕ) where
  -- -2^h is stop
  pub lowest-stops : signed_value h small large scale (neg_ℤ (pos (2 ^ h))) ≡ stop
  unfolding signed_value
  lowest-stops = rw (is-lowest h)

  -- and no other number is
  pub only-lowest-stops : (z : ℤ) → signed_value h small large scale z ≡ stop → z ≡ neg_ℤ (pos (2 ^ h))
  unfolding signed_value
  only-lowest-stops z e = only-lowest h z (picked-stop (is_lowest h z) (z *ℤ pos (step_of small large scale)) e)

  -- EXACT AT BOTH ENDS: a value is the number times the step, at most 2^h - 1 steps to either side
  pub exact-value : (z v : ℤ) → mag z < 2 ^ h → signed_value h small large scale z ≡ exactly v
      → (v ≡ z *ℤ pos (step_of small large scale)) × (nat_abs v ≤ (2 ^ h - 1) * step_of small large scale)
  unfolding signed_value
  exact-value z v l e =
      let k = step_of small large scale in
      let p = picked-exact (is_lowest h z) (z *ℤ pos k) v e in
      let near : nat_abs z ≤ 2 ^ h - 1 = omega (arith, abs-lt h z l p.0) in
      (p.1, rw (p.1, abs-product z k) (mul-le-mul_right k near))

  -- a number that is not the lowest has a value
  pub exact-other : (z : ℤ) → is_lowest h z ≡ false → signed_value h small large scale z ≡ exactly (z *ℤ pos (step_of small large scale))
  unfolding signed_value
  exact-other z e = rw e

-- ---- of a correction

module _ (prc rrc : ℤ) where
  -- PRC or RRC is the lowest number of its width
  pub stops-either : (stops_use prc rrc ≡ true) ↔ ((prc ≡ neg_ℤ (pos (2 ^ 15))) ⊎ (rrc ≡ neg_ℤ (pos (2 ^ 7))))
  unfolding stops_use
  stops-either = (one (is_lowest 15 prc) refl, stops)
    where
      one : (t : Bool) → is_lowest 15 prc ≡ t → t || is_lowest 7 rrc ≡ true → (prc ≡ neg_ℤ (pos (2 ^ 15))) ⊎ (rrc ≡ neg_ℤ (pos (2 ^ 7)))
      one true is e = inl (only-lowest 15 prc is)
      one false is e = inr (only-lowest 7 rrc e)

      stops : (prc ≡ neg_ℤ (pos (2 ^ 15))) ⊎ (rrc ≡ neg_ℤ (pos (2 ^ 7))) → is_lowest 15 prc || is_lowest 7 rrc ≡ true
      stops (inl e) = ap (λ t. t || is_lowest 7 rrc) (ap (is_lowest 15) e ∙ is-lowest 15)
      stops (inr e) = ap (λ t. is_lowest 15 prc || t) (ap (is_lowest 7) e ∙ is-lowest 7) ∙ or-true (is_lowest 15 prc)

  -- else neither is
  pub neither-lowest : stops_use prc rrc ≡ false → (is_lowest 15 prc ≡ false) × (is_lowest 7 rrc ≡ false)
  unfolding stops_use
  neither-lowest e = both_false (is_lowest 15 prc) (is_lowest 7 rrc) e
