-- `rrc_mm_s` meets its contract: the scale's test, then the two laws on signed numbers of 8 bits. Assumes nothing.
use mathlib.Core.Path.{ap}
use native.Mathlib.Omega.{arith}
use borrow.Author.Tests.{le-ltb}
use mir.Syntax.{w8, w16, w32}
use Rattle.record_values.specs.declared.Rate.TheVariants.{MillimetresPerSecond}
use Rattle.record_values.proofs.Products.{cast_fits, cast_is, read_back_lem}
use Rattle.record_values.proofs.Readings.{signed-stop, signed-exact}
use Rattle.record_values.proofs.rrc_mm_s.Goals as goal

pub returns-then-rrc-eqminus128 : goal.returns-then-rrc-eqminus128
returns-then-rrc-eqminus128 c =
    simp (le-ltb _ _ c.if-scale-gt1.false, signed-stop w8 2 32 c.args.scale c.args.rrc c.ranges.rrc c.if-rrc-eqminus128.true)

pub overflow_cast-rrc : goal.overflow_cast-rrc
overflow_cast-rrc c = cast_fits w8 w16 c.args.rrc c.ranges.rrc (omega arith)

pub returns : goal.returns
returns c =
    simp (le-ltb _ _ c.if-scale-gt1.false, signed-exact w8 2 32 c.args.scale c.args.rrc c.ranges.rrc c.if-rrc-eqminus128.false)
    (ap MillimetresPerSecond
    (read_back_lem w32 (record { sfits = c.product.type_inv }) c.product.ensures
    (cast_is w8 w16 c.args.rrc c.ranges.rrc (omega arith)) c.step_of.ensures))
