-- `remainder` meets its contract: four entries, the carried bits and the received parity, by the law of the tables. Assumes nothing.
use Rattle.word.proofs.Tables.{remainder-tables}
use Rattle.word.proofs.remainder.Goals as goal

pub returns : goal.returns
returns c =
    remainder-tables c.args.window c.data_of.result c.data_of.ensures c.carried_part.ensures c.data_part.ensures
