-- `row_of` meets its contract. Assumes nothing.
use mathlib.Core.Path.{ap}
use mathlib.Core.List.{[], ◌∷◌}
use native.Mathlib.Omega.{arith}
use Rattle.record_fields.specs.Tables.{row}
use Rattle.rtcm2.proofs.health.row_of.Goals as goal

pub overflow_cast-result-9 : goal.overflow_cast-result-9
overflow_cast-result-9 c = record { fits = omega (arith, c.struct_known-9-1.given.1.1.1.1.1.1.1.1.1.0.fits) }

pub returns : goal.returns
returns c =
    let e = c.args.e in
    ap (λ x. row (e.reserved ∷ e.satellite ∷ e.link ∷ x ∷ e.cn0 ∷ e.enable ∷ e.new_data ∷ e.loss ∷ e.time ∷ e.spare ∷ []))
    c.bits_of-bits.ensures
