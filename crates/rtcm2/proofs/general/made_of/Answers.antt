-- `made_of` meets its contract: what is made of the rows that the bytes say. Assumes nothing.
use mathlib.Core.Path.{ap₂, ◌∙◌}
use Rattle.record_generals.specs.Generals.{make_generals}
use Rattle.rtcm2.proofs.general.made_of.Goals as goal

pub returns : goal.returns
returns c =
    let a = c.args in
    c.make_generals.ensures ∙ ap₂ (make_generals a.header a.head) c.generals_in-entries.ensures c.count_of-count.ensures
