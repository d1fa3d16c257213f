-- `too_wide` meets its contract: count by count. Assumes nothing.
use borrow.Author.Tests.{le-leb, lt-leb}
use Rattle.rtcm2_state.specs.State.{too_wide}
use Rattle.rtcm2_state.proofs.too_wide.Goals as goal

pub returns-then-c-ge4294967296 : goal.returns-then-c-ge4294967296
unfolding too_wide
returns-then-c-ge4294967296 c = rw (le-leb _ _ c.if-c-ge4294967296.true)

pub returns-then-c-ge4294967296-2 : goal.returns-then-c-ge4294967296-2
unfolding too_wide
returns-then-c-ge4294967296-2 c = rw (lt-leb _ _ c.if-c-ge4294967296.false, le-leb _ _ c.if-c-ge4294967296-2.true)

pub returns : goal.returns
unfolding too_wide
returns c = rw (lt-leb _ _ c.if-c-ge4294967296.false, lt-leb _ _ c.if-c-ge4294967296-2.false)
