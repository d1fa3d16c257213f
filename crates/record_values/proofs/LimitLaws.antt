-- UDRE's upper limits: the product with the factor fits, and its hundredth part is whole. Assumes nothing.
use mathlib.Core.Path.{◌≡◌, refl}
use mathlib.Core.Bool.{false}
use mathlib.Core.List.{List, [], ◌∷◌}
use Prim.Native.Nat.{ℕ, zero, suc, ◌*◌, ◌/◌, ◌≤◌, ◌<◌}
use native.Mathlib.Nat.{mul-le-mul_right}
use native.Mathlib.Omega.{arith}
use lib.Dec.{ltb}
use lib.ListN.{get_or}
use mir.Syntax.{w32}
use mir.Val.{Fits}
use borrow.Author.Tests.{ltb-false}
use Rattle.frame.specs.Widths.{any_of}
use Rattle.frame.proofs.WidthLaws.{both_false}
use Rattle.record_values.specs.Values.{limits}
use Rattle.record_values.specs.GeneralValues.{general_limits}

-- no limit is rounded, whatever the hundredths
pub limit-whole : (udre h : ℕ) → get_or limits udre 0 * h / 100 * 100 ≡ get_or limits udre 0 * h
unfolding limits
limit-whole zero h = omega arith
limit-whole (suc zero) h = omega arith
limit-whole (suc (suc zero)) h = omega arith
limit-whole (suc (suc (suc u))) h = omega arith

-- ---- of types 41 and 42

none_over : (b : ℕ) (xs : List ℕ) (i : ℕ) → any_of (ltb b) xs ≡ false → get_or xs i 0 ≤ b
none_over b [] i e = omega arith
none_over b (x ∷ xs) zero e = ltb-false b x (both_false (ltb b x) (any_of (ltb b) xs) e).0
none_over b (x ∷ xs) (suc i) e = none_over b xs i (both_false (ltb b x) (any_of (ltb b) xs) e).1

general-limit-le : (udre : ℕ) → get_or general_limits udre 0 ≤ 18480
unfolding general_limits
general-limit-le udre = none_over 18480 general_limits udre refl

pub general-limit-fits : (udre h : ℕ) → h < 256 → Fits w32 (get_or general_limits udre 0 * h)
general-limit-fits udre h l = record { fits = omega (arith, mul-le-mul_right h (general-limit-le udre)) }
