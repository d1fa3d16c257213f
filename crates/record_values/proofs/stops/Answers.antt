-- `stops` meets its contract: each number is held against the lowest of its width. Assumes nothing.
use borrow.Author.Tests.{eq-eqb, ne_eqb}
use mir.Syntax.{w8, w16}
use Rattle.record_values.specs.Values.{stops_use}
use Rattle.record_values.proofs.Readings.{lowest-bits}
use Rattle.record_values.proofs.stops.Goals as goal

pub returns-then-prc-eqminus32768 : goal.returns-then-prc-eqminus32768
unfolding stops_use
returns-then-prc-eqminus32768 c =
    simp (lowest-bits w16 c.args.prc c.ranges.prc, eq-eqb _ _ c.if-prc-eqminus32768.true)

pub returns-else-prc-eqminus32768 : goal.returns-else-prc-eqminus32768
unfolding stops_use
returns-else-prc-eqminus32768 c =
    simp (lowest-bits w16 c.args.prc c.ranges.prc, ne_eqb _ _ c.if-prc-eqminus32768.false, lowest-bits w8 c.args.rrc c.ranges.rrc)
