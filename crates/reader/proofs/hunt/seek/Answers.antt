-- `seek` meets its contract: positions that nine bits rule out are passed over, and the hunt stays the same. Assumes nothing.
use Rattle.std.proofs.Common.{◌≡◌, ◌-◌, arith}
use Rattle.reader.proofs.Seeking.{seek-past}
use Rattle.reader.proofs.hunt.seek.Goals as goal

pub returns : goal.returns
returns c =
    let a = c.args in
    let z : a.words ≡ 0 = c.if-words-ne0.false in (
      c.passed.ensures.0,
      λ ended t. rw z
          (seek-past a.cells.now c.requires.0 a.end c.requires.1 a.left c.requires.2 c.pair-both.result c.headless-positions.result c.pair-both.ensures
          c.headless-positions.ensures.1 (a.left - c.passed.result) c.passed.result (omega (arith, c.passed.ensures.0)) c.passed.ensures.1
          (omega (arith, c.passed.ensures.2)) (omega (arith, c.passed.ensures.3)) ended t),
    )
