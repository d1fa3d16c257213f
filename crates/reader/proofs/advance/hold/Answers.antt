-- `hold` meets its contract: no word has come to its end, so the hunt stays where it is. Assumes nothing.
use Rattle.std.proofs.Common.{◌+◌, length, sym, ap, ◌∙◌, arith}
use Rattle.reader.specs.Reading.{step_cells}
use Rattle.reader.proofs.Pushing.{length-pushed, room-low}
use Rattle.reader.proofs.Steps.{step-wait}
use Rattle.reader.proofs.Stepping.{step-law}
use Rattle.reader.proofs.advance.hold.Goals as goal

pub returns : goal.returns
unfolding step_cells
returns c =
    let a = c.args in
    let len = ap length c.push-end.ensures.1 ∙ length-pushed a.cells.now a.c.end a.c.held c.requires.0 c.requires.1 c.requires.2 c.requires.3 a.six in
    let ends = room-low a.cells.now a.c.end a.c.held c.requires.0 c.requires.1 c.requires.2 c.requires.3 in
    let halt =
    step-wait c.push-end.new.cells len c.push-end.result (omega (arith, c.push-end.ensures.0, ends.0))
    (a.c.held + 6) (omega (arith, c.push-end.ensures.0, ends.1)) a.c.tally a.c.words c.requires.4 c.requires.6 in
    (c.moved.ensures ∙ step-law a.cells.now a.c a.six c.push-end.new.cells c.push-end.result _ c.push-end.ensures.1 c.push-end.ensures.0 (sym halt), c.push-end.ensures.1)
