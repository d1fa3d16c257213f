-- `push` meets its contract: with room the six bits are put in, else after the cells have moved down. Assumes nothing.
use Rattle.std.proofs.Common.{◌-◌, ◌*◌, ◌/◌, ap, ◌∙◌, arith}
use Rattle.reader.specs.Cells.{put_cells}
use Rattle.reader.proofs.Pushing.{down-within, push-in, push-over}
use Rattle.reader.proofs.cells.push.Goals as goal

pub returns-then-end-le1216 : goal.returns-then-end-le1216
returns-then-end-le1216 c =
    let a = c.args in
    let p = push-in a.cells.now a.end a.held a.six c.if-end-le1216.true in
    (p.0, c.put.ensures ∙ p.1)

pub put-requires-2 : goal.put-requires-2
put-requires-2 c = (
  c.copy_within.ensures.len ∙ c.requires.0,
  omega arith,
  c.requires.4,
)

pub returns : goal.returns
returns c =
    let a = c.args in
    let p = push-over a.cells.now a.end a.held a.six c.if-end-le1216.false in
    (p.0, c.put-2.ensures ∙ ap (λ l. put_cells l (a.end - 32 * ((a.end - a.held) / 32)) a.six) (c.copy_within.ensures.after ∙ down-within a.cells.now _ c.requires.0) ∙ p.1)
