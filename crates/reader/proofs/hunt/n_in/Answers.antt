-- `n_in` meets its contract: N of the window's data. Assumes nothing.
use Rattle.std.proofs.Common.{ap, ◌∙◌}
use Rattle.frame.specs.Header.{n_of}
use Rattle.reader.proofs.Leaves.{bits-data}
use Rattle.reader.proofs.hunt.n_in.Goals as goal

pub returns : goal.returns
returns c = c.n_of.ensures ∙ ap n_of (bits-data c.args.window _ c.data_of.ensures)
