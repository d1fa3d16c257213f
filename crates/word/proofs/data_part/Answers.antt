-- `data_part` meets its contract: the test of all entries, at these four. Assumes nothing.
use Rattle.word.specs.Tables.{first, second, third, fourth}
use Rattle.word.proofs.Tables.{data-entries}
use Rattle.word.proofs.data_part.Goals as goal

pub returns : goal.returns
unfolding first second third fourth
returns c =
    data-entries c.args.«data» c.entry.ensures c.entry-2.ensures c.entry-3.ensures c.entry-4.ensures
