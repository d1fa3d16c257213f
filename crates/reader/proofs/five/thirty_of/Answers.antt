-- `thirty_of` meets its contract: the law of the sixes. Assumes nothing.
use Rattle.std.proofs.Common.{arith}
use Rattle.reader.proofs.Joining.{thirty-law}
use Rattle.reader.proofs.five.thirty_of.Goals as goal

pub overflow_cast-result : goal.overflow_cast-result
overflow_cast-result c = omega (arith, (thirty-law c.args.five c.requires).0)

pub returns : goal.returns
returns c =
    let law = thirty-law c.args.five c.requires in
    (omega (arith, law.0), law.1)
