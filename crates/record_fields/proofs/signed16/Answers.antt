-- `signed16` meets its contract: the number fits the narrower type. Assumes nothing.
use mathlib.Core.Path.{◌∙◌}
use Prim.Native.Nat.{◌%◌}
use native.Mathlib.Omega.{arith}
use mir.Syntax.{w16}
use Rattle.record_fields.proofs.SignedCode.{narrowed, narrow-is, meant-fits, up}
use Rattle.record_fields.proofs.signed16.Goals as goal

pub overflow_cast-result : goal.overflow_cast-result
overflow_cast-result c = let f = meant-fits w16 c.signed.result (c.args.n % 65536) c.signed.ensures (omega arith) in narrowed w16
    c.signed.result f (up w16 _ f (omega arith))

pub returns : goal.returns
returns c = let f = meant-fits w16 c.signed.result (c.args.n % 65536) c.signed.ensures (omega arith) in narrow-is w16
    c.signed.result f (up w16 _ f (omega arith)) ∙ c.signed.ensures
