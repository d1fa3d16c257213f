-- `header_of` meets its contract: the test of the health, then its state. Assumes nothing.
use borrow.Author.Tests.{lt-ltb, le-ltb}
use Rattle.rtcm2.proofs.HealthLaws.{state-told}
use Rattle.rtcm2.proofs.header.header_of.Goals as goal

pub returns-then-health-gt7 : goal.returns-then-health-gt7
returns-then-health-gt7 c = simp (lt-ltb _ _ c.if-health-gt7.true)

pub returns : goal.returns
returns c = simp (le-ltb _ _ c.if-health-gt7.false, state-told c.if-health-gt7.false c.state_of-state.ensures)
