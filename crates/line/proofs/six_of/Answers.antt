-- `six_of` meets its contract: the test of the top bits, and the six bits mirrored. Assumes nothing.
use borrow.Author.Tests.{eq-eqb, ne_eqb}
use mathlib.Core.Path.{ap}
use Rattle.line.specs.Line.{six}
use Rattle.std.specs.Prelude.{Ok}
use Rattle.line.proofs.six_of.Goals as goal

pub returns-then-byte-ne1 : goal.returns-then-byte-ne1
returns-then-byte-ne1 c = simp (ne_eqb _ _ c.if-byte-ne1.true)

pub returns : goal.returns
unfolding six
returns c = simp (eq-eqb _ _ c.if-byte-ne1.false) (ap Ok c.mirrored.ensures.0)
