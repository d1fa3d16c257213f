-- `lacks_preamble` meets its contract: it is a first word, and its data has another. Assumes nothing.
use Rattle.std.proofs.Common.{not, ap, ◌∙◌}
use Rattle.bits.specs.Bits.{bits}
use Rattle.frame.specs.Header.{preambled}
use Rattle.reader.proofs.Leaves.{bits-data}
use Rattle.reader.proofs.Looking.{headless-later, headless-first}
use Rattle.reader.proofs.hunt.lacks_preamble.Goals as goal

pub returns-then-k-ne0 : goal.returns-then-k-ne0
returns-then-k-ne0 c = let a = c.args in headless-later a.k (bits 32 a.window) c.if-k-ne0.true

pub returns : goal.returns
returns c =
    let a = c.args in
    ap not (c.has_preamble.ensures ∙ ap preambled (bits-data a.window _ c.data_of.ensures))
    ∙ headless-first a.k (bits 32 a.window) c.if-k-ne0.false
