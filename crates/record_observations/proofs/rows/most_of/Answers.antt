-- `most_of` meets its contract: by what the type measures. Assumes nothing.
use mathlib.Core.Path.{sym, ap}
use Rattle.record_observations.specs.Observations.{most}
use Rattle.record_observations.proofs.rows.most_of.Goals as goal

pub returns-in-Phase : goal.returns-in-Phase
returns-in-Phase c = sym (ap most c.in-Phase.is)

pub returns-in-Range : goal.returns-in-Range
returns-in-Range c = sym (ap most c.in-Range.is)
