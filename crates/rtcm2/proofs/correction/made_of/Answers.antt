-- `made_of` meets its contract: what is made of the entries that the bytes say. Assumes nothing.
use mathlib.Core.Path.{ap, ap₂, ◌∙◌}
use Rattle.record_corrections.specs.Corrections.{make_corrections}
use Rattle.rtcm2_rows.specs.Rows.{entries_from}
use Rattle.rtcm2_rows.specs.Corrections.{row}
use Rattle.rtcm2.proofs.correction.made_of.Goals as goal

pub returns : goal.returns
returns c =
    let a = c.args in
    c.make_corrections.ensures
    ∙ ap₂ (make_corrections a.header) (c.corrections_in-entries.ensures ∙ ap (λ s. entries_from (row s) 18 a.corrections.now) c.system_of-system.ensures)
    c.count_of-count.ensures
