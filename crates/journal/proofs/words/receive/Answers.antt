-- `receive` meets its contract: word after word. Assumes nothing.
use Rattle.journal.proofs.WindowLaws.{data_turn, data_all}
use Rattle.journal.proofs.words.receive.Goals as goal

pub loop-word-preserved : goal.loop-word-preserved
loop-word-preserved c =
    data_turn c.args.words.now c.loop-word.words c.loop-word.word-index c.loop-word-test.true c.loop-word.invariant c.data_of.ensures

pub returns : goal.returns
returns c = data_all c.args.words.now c.loop-word.words c.loop-word.word-index c.loop-word-test.false c.loop-word.invariant
