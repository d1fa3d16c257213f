-- `bits_of` meets its contract: by the condition. Assumes nothing.
use mathlib.Core.Path.{sym, ap}
use Rattle.rtcm2.specs.Healths.{health_bits}
use Rattle.rtcm2.proofs.health.bits_of.Goals as goal

pub returns-in-Code : goal.returns-in-Code
unfolding health_bits
returns-in-Code c = sym (ap health_bits c.in-Code.is)

pub returns-in-Data : goal.returns-in-Data
unfolding health_bits
returns-in-Data c = sym (ap health_bits c.in-Data.is)
