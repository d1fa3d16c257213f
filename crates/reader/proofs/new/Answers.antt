-- `new` meets its contract: no bit held, at position 2. Assumes nothing.
use Rattle.std.proofs.Common.{refl}
use Rattle.reader.specs.Reading.{started}
use Rattle.reader.proofs.new.Goals as goal

pub returns : goal.returns
unfolding started
returns c = refl
