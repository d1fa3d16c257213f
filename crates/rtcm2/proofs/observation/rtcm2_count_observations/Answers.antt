-- `rtcm2_count_observations` meets its contract: it is the count of the layout. Assumes nothing.
use Rattle.record_observations.specs.Observations.{count_observations}
use Rattle.rtcm2.proofs.observation.rtcm2_count_observations.Goals as goal

pub returns : goal.returns
unfolding count_observations
returns c = record { value = c.count_at.ensures.value; count_after = c.count_at.ensures.count_after }
