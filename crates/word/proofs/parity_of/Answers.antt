-- `parity_of` meets its contract: six masks, by the law of the rows. Assumes nothing.
use Rattle.word.proofs.Computes.{parity-law}
use Rattle.word.proofs.parity_of.Goals as goal

pub returns : goal.returns
returns c =
    let a = c.args in
    parity-law a.carried a.«data»
    c.odd_of-p25.ensures c.odd_of-p26.ensures c.odd_of-p27.ensures c.odd_of-p28.ensures c.odd_of-p29.ensures c.odd_of-p30.ensures
