-- `cut_of` meets its contract: what is cut of the entries that the bytes say. Assumes nothing.
use mathlib.Core.Path.{ap₂, ◌∙◌}
use Rattle.profile.specs.Cutting.{cut_corrections}
use Rattle.rtcm2.proofs.beacon.cut_of.Goals as goal

pub returns : goal.returns
returns c =
    let a = c.args in
    c.cut_corrections.ensures ∙ ap₂ (cut_corrections a.header) c.corrections_in-entries.ensures c.count_of-count.ensures
