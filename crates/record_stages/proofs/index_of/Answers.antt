-- `index_of` meets its contract. Assumes nothing.
use borrow.Author.Tests.{le-leb, lt-leb}
use Rattle.record_stages.proofs.index_of.Goals as goal

pub returns-then-count-index : goal.returns-then-count-index
returns-then-count-index c = simp (le-leb _ _ c.if-count-index.true)

pub returns : goal.returns
returns c = simp (lt-leb _ _ c.if-count-index.false)
