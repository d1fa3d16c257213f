-- `signed14` meets its contract: what fourteen bits mean fits sixteen. Assumes nothing.
use mathlib.Core.Path.{◌∙◌}
use Prim.Native.Nat.{◌%◌}
use native.Mathlib.Omega.{arith}
use mir.Syntax.{w16}
use Rattle.record_fields.proofs.SignedCode.{narrowed, narrow-is, fewer-fits, up}
use Rattle.record_fields.proofs.signed14.Goals as goal

pub overflow_cast-result : goal.overflow_cast-result
overflow_cast-result c = let f = fewer-fits w16 13 c.signed.result (c.args.n % 16384) c.signed.ensures (omega arith) (omega arith) in
    narrowed w16 c.signed.result f (up w16 _ f (omega arith))

pub returns : goal.returns
returns c = let f = fewer-fits w16 13 c.signed.result (c.args.n % 16384) c.signed.ensures (omega arith) (omega arith) in
    narrow-is w16 c.signed.result f (up w16 _ f (omega arith)) ∙ c.signed.ensures
