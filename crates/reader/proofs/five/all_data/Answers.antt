-- `all_data` meets its contract: the law of the mask. Assumes nothing.
use Rattle.reader.proofs.Joining.{mask-law}
use Rattle.reader.proofs.five.all_data.Goals as goal

pub returns : goal.returns
returns c = mask-law c.args.five c.requires
