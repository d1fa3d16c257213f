-- `used_in` meets its contract: the first four bytes. Assumes nothing.
use Rattle.rtcm2_season.specs.Reports.{used_in}
use Rattle.rtcm2_season.proofs.used_in.Goals as goal

pub returns : goal.returns
unfolding used_in
returns c = c.number_at.ensures
