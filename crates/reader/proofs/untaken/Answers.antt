-- `untaken` meets its contract: the number, a blank, and the reader as it was. Assumes nothing.
use Rattle.std.proofs.Common.{ap}
use Rattle.reader.specs.declared.Answer.TheVariants.{Refused}
use Rattle.reader.proofs.untaken.Goals as goal

pub returns : goal.returns
returns c = ap (λ f. record { answer = Refused c.args.n; at = 0; frame = f; reader = c.args.reader }) c.no_frame.ensures
