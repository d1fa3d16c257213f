-- `number_at` meets its contract: the sum of the four bytes by their weights. Assumes nothing.
use mathlib.Core.Path.{◌∙◌}
use Rattle.rtcm2_state.proofs.StoreLaws.{number-four}
use Rattle.rtcm2_state.proofs.number.number_at.Goals as goal

pub returns : goal.returns
returns c = c.from_le_bytes.ensures ∙ number-four c.args.bytes.now c.args.at c.requires
