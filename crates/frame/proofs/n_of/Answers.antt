-- `n_of` meets its contract: the law on the third field of word 2. Assumes nothing.
use Rattle.frame.proofs.HeaderLaws.{n-number}
use Rattle.frame.proofs.n_of.Goals as goal

pub returns : goal.returns
returns c = n-number c.args.second
