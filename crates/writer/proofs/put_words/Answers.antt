-- `put_words` meets its contract, word after word. Assumes nothing.
use Rattle.frame.proofs.FrameLaws.{below_at}
use Rattle.writer.proofs.Putting.{put-turn, put_all}
use Rattle.writer.proofs.put_words.Goals as goal

pub put_word-pair-requires-clause-data_bound : goal.put_word-pair-requires-clause-data_bound
put_word-pair-requires-clause-data_bound c = below_at c.loop-i.i c.args.words.now c.requires.below

pub loop-i-preserved : goal.loop-i-preserved
loop-i-preserved c =
    put-turn _ _ _ _ _ _ _ c.loop-i.invariant c.loop-i-test.true c.put_word-pair.ensures.value c.put_word-pair.ensures.buffer_after

pub returns : goal.returns
returns c =
    let said = put_all _ _ _ _ _ _ _ c.loop-i.invariant c.loop-i-test.false in
    record { value = said.0; buffer_after = said.1 }
