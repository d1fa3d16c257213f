-- `put_words` meets its contract. The loop's invariant: what is left, put from here, gives what all words give from the start. Assumes nothing.
use Rattle.writer.proofs.Putting.{PutSoFar}
use Rattle.writer.proofs.put_words.Given as goal

abbrev pub invariant-loop-i : goal.invariant-loop-i
invariant-loop-i l = PutSoFar l.words l.at l.carried l.initial.buffer l.buffer l.pair l.i
