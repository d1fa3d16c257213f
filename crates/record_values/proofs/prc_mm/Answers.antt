-- `prc_mm` meets its contract: the scale's test, then the two laws on signed numbers of 16 bits. Assumes nothing.
use mathlib.Core.Path.{ap}
use borrow.Author.Tests.{le-ltb}
use mir.Syntax.{w16, w32}
use mir.ValLaws.{to_z-of_z}
use Rattle.record_values.specs.declared.Distance.TheVariants.{Millimetres}
use Rattle.record_values.proofs.Products.{read_back_lem}
use Rattle.record_values.proofs.Readings.{signed-stop, signed-exact}
use Rattle.record_values.proofs.prc_mm.Goals as goal

pub returns-then-prc-eqminus32768 : goal.returns-then-prc-eqminus32768
returns-then-prc-eqminus32768 c =
    simp (le-ltb _ _ c.if-scale-gt1.false, signed-stop w16 20 320 c.args.scale c.args.prc c.ranges.prc c.if-prc-eqminus32768.true)

pub returns : goal.returns
returns c =
    simp (le-ltb _ _ c.if-scale-gt1.false, signed-exact w16 20 320 c.args.scale c.args.prc c.ranges.prc c.if-prc-eqminus32768.false)
    (ap Millimetres
    (read_back_lem w32 (record { sfits = c.product.type_inv }) c.product.ensures (to_z-of_z w16 c.args.prc c.ranges.prc) c.step_of.ensures))
