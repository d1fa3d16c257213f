-- `is_unmarked` meets its contract: the first two bytes are not the mark's. Assumes nothing.
use Rattle.std.proofs.Common.{ap, ◌∙◌, not}
use Rattle.mender.proofs.StepLaws.{mark-tested}
use Rattle.mender.proofs.is_unmarked.Goals as goal

pub returns : goal.returns
returns c = ap not c.starts_with.ensures.value ∙ mark-tested c.args.bytes.now
