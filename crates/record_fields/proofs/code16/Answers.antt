-- `code16` meets its contract: the cast to 64 bits keeps the number. Assumes nothing.
use mathlib.Core.Path.{sym, ap, subst, ◌∙◌}
use Prim.Native.Nat.{◌^◌, ◌<◌}
use native.Mathlib.Omega.{arith}
use lib.IntN.{ℤ}
use lib.Signed.{mag}
use mir.Syntax.{w16}
use Rattle.bits.specs.Signed.{code}
use Rattle.record_fields.proofs.SignedCode.{widened, wide_is, up}
use Rattle.record_fields.proofs.code16.Goals as goal

pub overflow_cast-z : goal.overflow_cast-z
overflow_cast-z c = widened w16 c.args.z c.ranges.z (up w16 _ c.ranges.z (omega arith))

pub code-requires : goal.code-requires
code-requires c = (
  omega arith,
  subst (λ (x : ℤ). mag x < 2 ^ 15) (sym (wide_is w16 c.args.z c.ranges.z (up w16 _ c.ranges.z (omega arith))))
      c.ranges.z.sfits,
)

pub returns : goal.returns
returns c = c.code.ensures ∙ ap (code 15) (wide_is w16 c.args.z c.ranges.z (up w16 _ c.ranges.z (omega arith)))
