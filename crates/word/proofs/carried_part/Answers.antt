-- `carried_part` meets its contract: the columns of the two carried bits. Assumes nothing.
use Rattle.word.proofs.Tables.{carried-columns}
use Rattle.word.proofs.carried_part.Goals as goal

pub returns : goal.returns
returns c = carried-columns c.args.carried
