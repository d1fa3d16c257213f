-- `satellite_of` meets its contract. Assumes nothing.
use borrow.Author.Tests.{eq-eqb, ne_eqb}
use Rattle.record_fields.proofs.satellite_of.Goals as goal

pub returns-then-five-eq0 : goal.returns-then-five-eq0
returns-then-five-eq0 c = simp (eq-eqb _ _ c.if-five-eq0.true)

pub returns : goal.returns
returns c = simp (ne_eqb _ _ c.if-five-eq0.false)
