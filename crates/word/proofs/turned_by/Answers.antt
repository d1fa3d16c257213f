-- `turned_by` meets its contract: the data turned over where D30* is one. Assumes nothing.
use Rattle.word.proofs.Computes.{turned-law}
use Rattle.word.proofs.turned_by.Goals as goal

pub returns : goal.returns
returns c = turned-law c.args.carried c.args.«data»
