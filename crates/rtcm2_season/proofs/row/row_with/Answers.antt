-- `row_with` meets its contract: number by number. Assumes nothing.
use mathlib.Core.Path.{◌∙◌}
use mir.Syntax.{w64}
use mir.ValLaws.{to_z-of_z}
use Rattle.rtcm2_season.proofs.RowLaws.{row-law}
use Rattle.rtcm2_season.proofs.row.row_with.Goals as goal

pub returns : goal.returns
returns c =
    let ns = c.args.numbers in
    row-law ns c.system_with.result c.extremes_with.result _ c.system_with.ensures
    c.extremes_with.ensures (to_z-of_z w64 c.signed64.result (record { sfits = c.signed64.ensures.1 }) ∙ c.signed64.ensures.0)
