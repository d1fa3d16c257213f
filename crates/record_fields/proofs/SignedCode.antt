-- Facts on signed numbers in locals that the proofs of the two's complement functions cite, over the width. Assumes nothing.
use mathlib.Core.Path.{◌≡◌, refl, sym, ap, subst, ◌∙◌}
use mathlib.Core.Bool.{true, false, true≢false}
use Prim.Native.Nat.{ℕ, zero, suc, ◌+◌, ◌-◌, ◌%◌, ◌^◌, ◌≤◌, ◌<◌}
use native.Mathlib.Nat.{pow-suc, mod-eq_of_lt}
use native.Mathlib.Omega.{arith}
use native.Mathlib.Numerals.{add-one}
use lib.Dec.{T}
use lib.Pow.{pow_mono}
use lib.IntN.{ℤ, pos, negsuc, nat_abs, ◌+ℤ◌, ◌-ℤ◌}
use lib.Signed.{mag, lt_z, non_neg}
use mir.Syntax.{Width, w32, w64}
use mir.Val.{hbits, SFits, Fits, to_z, of_z}
use mir.ValLaws.{to_z-of_z, to_z_pos}
use borrow.Author.Tests.{ltb-true, lt-ltb, le-ltb}
use Rattle.bits.specs.Signed.{signed, code}
use Rattle.bits.proofs.SignedLaws.{code_lt, mag-signed}

pub minus : (n m : ℕ) → n < m → pos n -ℤ pos m ≡ negsuc (m - suc n)
minus n zero h = absurd (omega arith)
minus n (suc m) h = rw (lt-ltb n (suc m) h)

pub plus : (n m : ℕ) → n < m → negsuc n +ℤ pos m ≡ pos (m - suc n)
plus n m h = rw (le-ltb m (suc n) (omega arith))

-- SIGNED NUMBERS: a local of 64 bits holds them; what it is read back as is the number
pub nonneg-fits : (k : ℕ) → k < 2 ^ 32 → SFits w64 (pos k)
nonneg-fits k h = record { sfits = omega arith }

pub back : (k : ℕ) → k < 2 ^ 32 → to_z w64 (of_z w64 (pos k)) ≡ pos k
back k h = to_z-of_z w64 (pos k) (nonneg-fits k h)

module _ (s : ℤ) (k : ℕ) (e : s ≡ pos k) (h : k < 2 ^ 32) where
  read : to_z w64 (of_z w64 s) ≡ pos k
  read = ap (λ (x : ℤ). to_z w64 (of_z w64 x)) e ∙ back k h

  pub sum_fits : SFits w64 s
  sum_fits = subst (SFits w64) (sym e) (nonneg-fits k h)

  pub cast_ok : T (non_neg (to_z w64 (of_z w64 s))) × Fits w32 (nat_abs (to_z w64 (of_z w64 s)))
  cast_ok = subst (λ (x : ℤ). T (non_neg x) × Fits w32 (nat_abs x)) (sym read) (tt, record { fits = h })

  pub cast_is : nat_abs (to_z w64 (of_z w64 s)) ≡ k
  cast_is = ap nat_abs read

pub code_below : (h : ℕ) (z : ℤ) → mag z < 2 ^ h → h ≤ 31 → code h z < 2 ^ 32
code_below h z m l = omega (arith, code_lt h z m, pow_mono {i = suc h} {j = 32} (omega arith))

pub code-neg : (z : ℤ) (h p : ℕ) → SFits w64 z → mag z < 2 ^ h → h ≤ 31 → p ≡ 2 ^ (h + 1) → lt_z (to_z w64 (of_z w64 z)) (to_z w64 0) ≡ true
    → to_z w64 (of_z w64 z) +ℤ to_z w64 p ≡ pos (code h z)
unfolding code
code-neg z h p f m l e t = go z m (to_z-of_z w64 z f) (ap (λ (x : ℤ). lt_z x (pos 0)) (sym (to_z-of_z w64 z f)) ∙ t)
  where
    top : 2 ^ suc h ≤ 2 ^ 32
    top = pow_mono {i = suc h} {j = 32} (omega arith)

    p-is : p ≡ 2 ^ suc h
    p-is = e ∙ ap (λ (n : ℕ). 2 ^ n) (add-one h)

    p-read : to_z w64 p ≡ pos p
    p-read = to_z_pos w64 p (omega (arith, p-is, top))

    go : (y : ℤ) → mag y < 2 ^ h → to_z w64 (of_z w64 z) ≡ y → lt_z y (pos 0) ≡ true → to_z w64 (of_z w64 z) +ℤ to_z w64 p ≡ pos (code h y)
    go (pos n) b r u = absurd (omega (arith, ltb-true n 0 u))
    go (negsuc n) b r u = rw (r, p-read) (plus n p (omega (arith, p-is, pow-suc 2 h)) ∙ ap (λ (x : ℕ). pos (x - suc n)) p-is)

pub code-pos : (z : ℤ) (h : ℕ) → SFits w64 z → lt_z (to_z w64 (of_z w64 z)) (to_z w64 0) ≡ false → z ≡ pos (code h z)
unfolding code
code-pos z h f t = go z (ap (λ (x : ℤ). lt_z x (pos 0)) (sym (to_z-of_z w64 z f)) ∙ t)
  where
    go : (y : ℤ) → lt_z y (pos 0) ≡ false → y ≡ pos (code h y)
    go (pos n) u = refl
    go (negsuc n) u = absurd (true≢false u)

-- below half: the number itself; from half on: less two to the width
pub signed_low : (n h : ℕ) → h ≤ 31 → n < 2 ^ h → to_z w64 n ≡ signed h n
unfolding signed
signed_low n h l b = to_z_pos w64 n (omega (arith, pow_mono {i = h} {j = 31} l)) ∙ rw (lt-ltb n (2 ^ h) b)

module _ (n h p : ℕ) (l : h ≤ 31) (e : p ≡ 2 ^ (h + 1)) (b : 2 ^ h ≤ n) (t : n < 2 ^ (h + 1)) where
  p-is : p ≡ 2 ^ suc h
  p-is = e ∙ ap (λ (k : ℕ). 2 ^ k) (add-one h)

  pub power-fits : SFits w64 (pos p)
  power-fits = record { sfits = omega (arith, p-is, pow_mono {i = suc h} {j = 32} (omega arith)) }

  apart : to_z w64 n -ℤ to_z w64 p ≡ negsuc (p - suc n)
  apart = rw (to_z_pos w64 n (omega (arith, e, power-fits.sfits)), to_z_pos w64 p power-fits.sfits) (minus n p (omega (arith, e)))

  pub apart_fits : SFits w64 (to_z w64 n -ℤ to_z w64 p)
  apart_fits = subst (SFits w64) (sym apart) (record { sfits = omega (arith, power-fits.sfits) })

  pub signed_high : to_z w64 (of_z w64 (to_z w64 n -ℤ to_z w64 p)) ≡ signed h n
  unfolding signed
  signed_high = to_z-of_z w64 (to_z w64 n -ℤ to_z w64 p) apart_fits ∙ apart ∙ ap (λ (k : ℕ). negsuc (k - suc n)) p-is ∙ rw (le-ltb n (2 ^ h) b)

pub power : (h p : ℕ) → h ≤ 31 → p ≡ 2 ^ (h + 1) → p ≤ 2 ^ 32
power h p l e = omega (arith, e ∙ ap (λ (n : ℕ). 2 ^ n) (add-one h), pow_mono {i = suc h} {j = 32} (omega arith))

-- between 64 bits and a narrower width
pub widened : (w : Width) (z : ℤ) → SFits w z → SFits w64 z → SFits w64 (to_z w (of_z w z))
widened w z f g = subst (SFits w64) (sym (to_z-of_z w z f)) g

pub wide_is : (w : Width) (z : ℤ) → SFits w z → SFits w64 z → to_z w64 (of_z w64 (to_z w (of_z w z))) ≡ z
wide_is w z f g = ap (λ (x : ℤ). to_z w64 (of_z w64 x)) (to_z-of_z w z f) ∙ to_z-of_z w64 z g

pub narrowed : (w : Width) (z : ℤ) → SFits w z → SFits w64 z → SFits w (to_z w64 (of_z w64 z))
narrowed w z f g = subst (SFits w) (sym (to_z-of_z w64 z g)) f

pub narrow-is : (w : Width) (z : ℤ) → SFits w z → SFits w64 z → to_z w (of_z w (to_z w64 (of_z w64 z))) ≡ z
narrow-is w z f g = ap (λ (x : ℤ). to_z w (of_z w x)) (to_z-of_z w64 z g) ∙ to_z-of_z w z f

-- each narrower width fits 64 bits
pub up : (w : Width) (z : ℤ) → SFits w z → 2 ^ hbits w ≤ 2 ^ hbits w64 → SFits w64 z
up w z f h = record { sfits = omega (arith, f.sfits, h) }

-- what a code means fits the width, and one of at most as many bits
pub fewer-fits : (w : Width) (h : ℕ) (z : ℤ) (n : ℕ) → z ≡ signed h n → n < 2 ^ suc h → 2 ^ h ≤ 2 ^ hbits w → SFits w z
fewer-fits w h z n e l f = record { sfits = rw e (let m = mag-signed h n l in omega (arith, m, f)) }

pub meant-fits : (w : Width) (z : ℤ) (n : ℕ) → z ≡ signed (hbits w) n → n < 2 ^ suc (hbits w) → SFits w z
meant-fits w z n e h = fewer-fits w (hbits w) z n e h (omega arith)

-- a code that fits its width, read as a signed number and held in a local
pub signed-held : (w : Width) (z : ℤ) (n : ℕ) → z ≡ signed (hbits w) n → n < 2 ^ suc (hbits w) → to_z w (of_z w z) ≡ signed (hbits w) n
signed-held w z n e l = to_z-of_z w z (meant-fits w z n e l) ∙ e

-- .. of which the low bits were read
pub signed-read : (w : Width) (z : ℤ) (n : ℕ) → z ≡ signed (hbits w) (n % 2 ^ suc (hbits w)) → n < 2 ^ suc (hbits w)
    → to_z w (of_z w z) ≡ signed (hbits w) n
signed-read w z n e l = signed-held w z n (e ∙ ap (signed (hbits w)) (mod-eq_of_lt l)) l

-- the code of a signed number in a struct
pub code-sent : (w : Width) (z : ℤ) (n : ℕ) → n ≡ code (hbits w) (to_z w (of_z w z)) → mag z < 2 ^ hbits w → n ≡ code (hbits w) z
code-sent w z n e l = e ∙ ap (code (hbits w)) (to_z-of_z w z (record { sfits = l }))
