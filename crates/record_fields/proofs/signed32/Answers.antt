-- `signed32` meets its contract: the number fits the narrower type. Assumes nothing.
use mathlib.Core.Path.{◌∙◌}
use native.Mathlib.Omega.{arith}
use mir.Syntax.{w32}
use Rattle.record_fields.proofs.SignedCode.{narrowed, narrow-is, meant-fits, up}
use Rattle.record_fields.proofs.signed32.Goals as goal

pub overflow_cast-result : goal.overflow_cast-result
overflow_cast-result c = let f = meant-fits w32 c.signed.result c.args.n c.signed.ensures (omega arith) in narrowed w32 c.signed.result
    f (up w32 _ f (omega arith))

pub returns : goal.returns
returns c = let f = meant-fits w32 c.signed.result c.args.n c.signed.ensures (omega arith) in narrow-is w32 c.signed.result f
    (up w32 _ f (omega arith)) ∙ c.signed.ensures
