-- `window` meets its contract: the pair of cells cut at the bit. Assumes nothing.
use Rattle.reader.proofs.Buffer.{number-window}
use Rattle.reader.proofs.cells.window.Goals as goal

pub returns : goal.returns
returns c =
    rw c.pair.ensures (number-window c.args.cells.now c.args.bit c.requires.0 c.requires.1)
