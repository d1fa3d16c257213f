-- `look` meets its contract: the preamble of the first word, then the test. Assumes nothing.
use Rattle.std.proofs.Common.{sym, ◌∙◌}
use Rattle.bits.specs.Bits.{bits}
use Rattle.reader.proofs.Looking.{look-headless, look-right, look-wrong}
use Rattle.reader.proofs.hunt.look.Goals as goal

pub returns-then-lacks_preamble : goal.returns-then-lacks_preamble
returns-then-lacks_preamble c =
    let a = c.args in
    look-headless a.k (bits 32 a.window) a.tally (sym c.lacks_preamble.ensures ∙ c.if-lacks_preamble.true)

pub returns-in-Err : goal.returns-in-Err
returns-in-Err c =
    let a = c.args in
    look-wrong a.k (bits 32 a.window) a.tally (sym c.lacks_preamble.ensures ∙ c.if-lacks_preamble.false)
    c.test-told.result c.test-told.ensures _ c.in-Err.is c.counted.result c.counted.ensures

pub returns : goal.returns
returns c =
    let a = c.args in
    look-right a.k (bits 32 a.window) a.tally (sym c.lacks_preamble.ensures ∙ c.if-lacks_preamble.false)
    c.test-told.result c.test-told.ensures c.in_default.is
