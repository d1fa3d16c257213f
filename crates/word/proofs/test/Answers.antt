-- `test` meets its contract: passed where the remainder is zero, else failed with it. Assumes nothing.
use native.Mathlib.Omega.{arith}
use Rattle.word.proofs.Testing.{zero-passes, other-fails}
use Rattle.word.proofs.test.Goals as goal

pub returns-in-0 : goal.returns-in-0
returns-in-0 c = zero-passes _ _ c.remainder.ensures c.in-0.is

pub returns-in_default : goal.returns-in_default
returns-in_default c = other-fails _ _ c.remainder.ensures (λ zero. omega arith)
