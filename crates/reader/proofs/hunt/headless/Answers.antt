-- `headless` meets its contract: above the highest head that is shown no nine bits are a preamble's. Assumes nothing.
use Rattle.std.proofs.Common.{refl}
use Rattle.reader.proofs.Seeking.{headless-law}
use Rattle.reader.proofs.hunt.headless.Goals as goal

pub returns : goal.returns
returns c = headless-law c.args.both c.args.off _ c.requires.1 refl
