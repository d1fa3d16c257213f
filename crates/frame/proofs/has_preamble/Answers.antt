-- `has_preamble` meets its contract: the law on the first field of word 1. Assumes nothing.
use Rattle.frame.proofs.HeaderLaws.{preamble-number}
use Rattle.frame.proofs.has_preamble.Goals as goal

pub returns : goal.returns
returns c = preamble-number c.args.first
