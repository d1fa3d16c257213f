-- `later` meets its contract. Assumes nothing.
use Rattle.std.proofs.Common.{sym, ap, arith}
use Rattle.reader.specs.Reading.{later}
use Rattle.reader.proofs.Ahead.{later-some}
use Rattle.reader.proofs.advance.later.Goals as goal

pub returns-then-words-eq0 : goal.returns-then-words-eq0
returns-then-words-eq0 c = (sym (ap later c.if-words-eq0.true), omega arith)

pub returns : goal.returns
returns c = (later-some c.args.words c.if-words-eq0.false, omega arith)
