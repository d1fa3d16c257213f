-- `numbers_of` meets its contract. Assumes nothing.
use mathlib.Core.Path.{ap₂}
use mathlib.Core.List.{[], ◌∷◌}
use lib.ListN.{get_or}
use Rattle.record_fields.specs.Tables.{row}
use Rattle.record_observations.proofs.rows.numbers_of.Goals as goal

pub returns : goal.returns
returns c =
    let e = c.args.e in
    ap₂ (λ x l. row (x ∷ e.code ∷ e.system ∷ e.satellite ∷ e.quality ∷ get_or l 0 0 ∷ get_or l 1 0 ∷ []))
    c.mark_number-first.ensures c.measured_numbers-last.ensures
