-- `header_of` meets its contract: the law on the fields of both words. Assumes nothing.
use Rattle.frame.proofs.HeaderLaws.{header-number}
use Rattle.frame.proofs.header_of.Goals as goal

pub returns : goal.returns
returns c =
    let a = c.args in
    cc (header-number a.first a.second)
