-- Satellite numbers and their codes are inverse. Assumes nothing.
use mathlib.Core.Path.{◌≡◌, refl, ap}
use mathlib.Core.Bool.{cond}
use Prim.Native.Nat.{ℕ, zero, suc, ◌%◌, ◌≤◌, ◌<◌}
use native.Mathlib.Nat.{mod-eq_of_lt}
use native.Mathlib.Omega.{arith}
use lib.Dec.{eqb}
use borrow.Author.Tests.{ne_eqb}
use Rattle.record_fields.specs.Satellites.{satellite_of, satellite_code}

pub satellite-back : (s : ℕ) → 0 < s → s ≤ 32 → satellite_of (satellite_code s) ≡ s
satellite-back s l h = go (s % 32) refl
  where
    go : (r : ℕ) → s % 32 ≡ r → cond (eqb r 0) 32 r ≡ s
    go zero e = omega arith
    go (suc r) e = rw (ne_eqb (suc r) 0 (λ z. omega arith)) (omega arith)

pub code-back : (n : ℕ) → n < 32 → satellite_code (satellite_of n) ≡ n
code-back zero h = refl
code-back (suc n) h = rw (ne_eqb (suc n) 0 (λ z. omega arith)) (omega arith)

-- a code of five bits is its low five bits
pub low-five : (n : ℕ) → n < 32 → satellite_of (n % 32) ≡ satellite_of n
low-five n h = ap satellite_of (mod-eq_of_lt h)
