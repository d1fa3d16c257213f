-- `made_of` meets its contract: what is made of the rows that the bytes say. Assumes nothing.
use mathlib.Core.Path.{ap₂, ◌∙◌}
use Rattle.record_observations.specs.Observations.{make_observations}
use Rattle.rtcm2.proofs.observation.made_of.Goals as goal

pub returns : goal.returns
returns c =
    let a = c.args in
    c.make_observations.ensures ∙ ap₂ (make_observations a.edition a.header a.epoch) c.observations_in-entries.ensures c.count_of-count.ensures
