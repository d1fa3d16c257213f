-- `general_udre` meets its contract: the limit's product with the factor fits. Assumes nothing.
use native.Mathlib.Omega.{arith}
use Rattle.record_values.specs.GeneralValues.{general_limits}
use Rattle.record_values.proofs.LimitLaws.{general-limit-fits}
use Rattle.record_values.proofs.general.general_udre.Goals as goal

pub overflow_mul-result : goal.overflow_mul-result
unfolding general_limits
overflow_mul-result c = general-limit-fits c.args.udre c.hundredths_of.result (omega arith)
