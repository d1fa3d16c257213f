-- `is_stuck` meets its contract: the flag, then whether a frame waits. Assumes nothing.
use borrow.Author.Tests.{not-true, not-false}
use Rattle.reader.proofs.RowChecks.{not_stuck, stuck-by}
use Rattle.reader.proofs.rows.is_stuck.Goals as goal

pub returns-then-not-c : goal.returns-then-not-c
returns-then-not-c c =
    let a = c.args in
    not_stuck a.cells.now a.c (not-true _ c.if-not-c.true)

pub frame_waits-requires : goal.frame_waits-requires
frame_waits-requires c = c.requires

pub returns : goal.returns
returns c =
    let a = c.args in
    stuck-by a.cells.now a.c (not-false _ c.if-not-c.false) c.frame_waits.result c.frame_waits.ensures
