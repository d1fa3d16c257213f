-- `frame_waits` meets its contract: the flag, then whether a frame stands. Assumes nothing.
use borrow.Author.Tests.{not-true, not-false}
use Rattle.std.proofs.Common.{◌∙◌}
use Rattle.reader.specs.Reading.{candidate_bits}
use Rattle.reader.proofs.Accepted.{to-accepted}
use Rattle.reader.proofs.Turning.{no_flag, flag-set}
use Rattle.reader.proofs.rows.frame_waits.Goals as goal

pub returns-then-not-c : goal.returns-then-not-c
returns-then-not-c c =
    let a = c.args in
    no_flag a.cells.now a.c (not-true _ c.if-not-c.true)

pub stands_in-requires : goal.stands_in-requires
stands_in-requires c =
    let k = to-accepted c.args.c c.requires.1 in
    (c.requires.0, k.top, k.low)

pub returns : goal.returns
unfolding candidate_bits
returns c =
    let a = c.args in
    c.stands_in.ensures ∙ flag-set a.cells.now a.c (not-false _ c.if-not-c.false)
