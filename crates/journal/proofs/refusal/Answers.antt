-- `refusal` meets its contract: the frame beside the number is the blank one. Assumes nothing.
use mathlib.Core.Path.{ap}
use Rattle.journal.specs.declared.Found.TheVariants.{Refused}
use Rattle.journal.proofs.refusal.Goals as goal

pub returns : goal.returns
returns c = ap (λ f. record { answer = Refused c.args.number; frame = f }) c.no_frame.ensures
