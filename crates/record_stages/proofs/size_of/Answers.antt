-- `size_of` meets its contract. Assumes nothing.
use borrow.Author.Tests.{eq-eqb, ne_eqb}
use Rattle.record_stages.proofs.size_of.Goals as goal

pub returns-then-n-wanted : goal.returns-then-n-wanted
returns-then-n-wanted c = simp (eq-eqb _ _ c.if-n-wanted.true)

pub returns : goal.returns
returns c = simp (ne_eqb _ _ c.if-n-wanted.false)
