-- `counted` meets its contract: one more, by the ones of the remainder modulo two. Assumes nothing.
use Rattle.reader.proofs.Looking.{none-odd, one-odd}
use Rattle.reader.proofs.hunt.counted.Goals as goal

pub returns-then-remainder-eq0 : goal.returns-then-remainder-eq0
returns-then-remainder-eq0 c = rw (none-odd _ c.if-remainder-eq0.true)

pub returns : goal.returns
returns c = rw (one-odd _ c.if-remainder-eq0.false)
