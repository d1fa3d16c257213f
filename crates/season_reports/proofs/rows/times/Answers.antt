-- `times` meets its contract: 32 bits by 32 have room in 64. Assumes nothing.
use Rattle.season_reports.proofs.RowCode.{wide_fits, times-fits, times-is}
use Rattle.season_reports.proofs.rows.times.Goals as goal

pub overflow_cast-result-2 : goal.overflow_cast-result-2
overflow_cast-result-2 c = wide_fits c.args.count c.args.mm c.ranges.count.fits c.ranges.mm

pub overflow_mul-result : goal.overflow_mul-result
overflow_mul-result c = times-fits c.args.count c.args.mm c.ranges.count.fits c.ranges.mm

pub returns : goal.returns
returns c = times-is c.args.count c.args.mm c.ranges.count.fits c.ranges.mm
