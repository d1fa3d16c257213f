-- `data_of` meets its contract: the data bits of the window, polarity undone. Assumes nothing.
use mathlib.Core.Path.{◌∙◌}
use Rattle.word.proofs.Computes.{data-law}
use Rattle.word.proofs.data_of.Goals as goal

pub returns : goal.returns
returns c = c.turned_by.ensures ∙ data-law c.args.window
