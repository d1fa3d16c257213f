-- `is_set` meets its contract: every number but 0 is a flag that is set. Assumes nothing.
use mathlib.Core.Path.{◌≡◌, refl, sym, ap}
use mathlib.Core.Bool.{true}
use Prim.Native.Nat.{ℕ, zero, suc}
use Rattle.bits.specs.Bits.{is_nonzero}
use Rattle.rtcm2.proofs.mending.is_set.Goals as goal

some : (n : ℕ) → (n ≡ 0 → ⊥) → true ≡ is_nonzero n
some zero h = absurd (h refl)
some (suc n) h = refl

pub returns-then-flag-eq0 : goal.returns-then-flag-eq0
returns-then-flag-eq0 c = sym (ap is_nonzero c.if-flag-eq0.true)

pub returns : goal.returns
returns c = some _ c.if-flag-eq0.false
