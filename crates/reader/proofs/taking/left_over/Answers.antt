-- `left_over` meets its contract: the law of the division. Assumes nothing.
use Rattle.std.proofs.Common.{◌^◌, ◌<◌, rules}
use Rattle.reader.proofs.Dividing.{left-law}
use Rattle.reader.proofs.taking.left_over.Goals as goal

pub returns : goal.returns
returns c =
    let a = c.args in
    let low : a.one < 2 ^ 32 = search rules in
    let high : a.two < 2 ^ 32 = search rules in
    rw (left-law a.one a.two c.both_of-both.result low high c.both_of-both.ensures)
