-- `product` meets its contract: sixteen bits by sixteen have room in 32. Assumes nothing.
use native.Mathlib.Omega.{arith}
use mir.Syntax.{w16, w32}
use Rattle.record_values.proofs.Products.{cast_fits, product-fits, product_is}
use Rattle.record_values.proofs.product.Goals as goal

pub overflow_cast-result : goal.overflow_cast-result
overflow_cast-result c = cast_fits w16 w32 c.args.number c.ranges.number (omega arith)

pub overflow_mul-result : goal.overflow_mul-result
overflow_mul-result c = product-fits w16 w32 16 c.args.number c.args.step c.ranges.number c.ranges.step.fits (omega arith)

pub returns : goal.returns
returns c = product_is w16 w32 16 c.args.number c.args.step c.ranges.number c.ranges.step.fits (omega arith)
