-- `edition_of` meets its contract: number by number. Assumes nothing.
use borrow.Author.Tests.{eq-eqb, ne_eqb, lt-ltb, le-ltb}
use Rattle.rtcm2.specs.Observations.{edition_named}
use Rattle.rtcm2.proofs.observation.edition_of.Goals as goal

pub returns-then-edition-gt1 : goal.returns-then-edition-gt1
returns-then-edition-gt1 c = rw (lt-ltb 1 _ c.if-edition-gt1.true)

pub returns-then-edition-eq0 : goal.returns-then-edition-eq0
unfolding edition_named
returns-then-edition-eq0 c = rw (le-ltb 1 _ c.if-edition-gt1.false, eq-eqb _ 0 c.if-edition-eq0.true)

pub returns : goal.returns
unfolding edition_named
returns c = rw (le-ltb 1 _ c.if-edition-gt1.false, ne_eqb _ 0 c.if-edition-eq0.false)
