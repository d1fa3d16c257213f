-- `pair_of` meets its contract: the two highest bits of the window. Assumes nothing.
use Rattle.std.proofs.Common.{arith}
use Rattle.reader.proofs.TakeLaws.{pair-window}
use Rattle.reader.proofs.taking.pair_of.Goals as goal

pub returns : goal.returns
returns c = pair-window _

pub overflow_cast-one : goal.overflow_cast-one
overflow_cast-one c = omega arith

pub overflow_cast-two : goal.overflow_cast-two
overflow_cast-two c = omega arith
