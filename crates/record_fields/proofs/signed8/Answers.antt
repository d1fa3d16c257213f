-- `signed8` meets its contract: the number fits the narrower type. Assumes nothing.
use mathlib.Core.Path.{◌∙◌}
use Prim.Native.Nat.{◌%◌}
use native.Mathlib.Omega.{arith}
use mir.Syntax.{w8}
use Rattle.record_fields.proofs.SignedCode.{narrowed, narrow-is, meant-fits, up}
use Rattle.record_fields.proofs.signed8.Goals as goal

pub overflow_cast-result : goal.overflow_cast-result
overflow_cast-result c = let f = meant-fits w8 c.signed.result (c.args.n % 256) c.signed.ensures (omega arith) in narrowed w8
    c.signed.result f (up w8 _ f (omega arith))

pub returns : goal.returns
returns c = let f = meant-fits w8 c.signed.result (c.args.n % 256) c.signed.ensures (omega arith) in narrow-is w8
    c.signed.result f (up w8 _ f (omega arith)) ∙ c.signed.ensures
