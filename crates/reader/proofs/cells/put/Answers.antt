-- `put` meets its contract: the two cells as one number, the six bits after those kept. Assumes nothing.
use Rattle.std.proofs.Common.{◌≡◌, ◌-◌, ◌/◌, ◌%◌, ◌^◌, get_or, div-le_self, arith}
use Rattle.reader.specs.Cells.{put_cells}
use Rattle.reader.proofs.cells.put.Goals as goal

pub overflow_mul-both : goal.overflow_mul-both
overflow_mul-both c = omega (arith, c.from.ensures, div-le_self c.from.result (2 ^ (32 - c.args.end % 32)))

pub overflow_add-both : goal.overflow_add-both
overflow_add-both c = omega (arith, c.from.ensures, c.from-2.ensures, div-le_self c.from.result (2 ^ (32 - c.args.end % 32)))

pub returns : goal.returns
unfolding put_cells
returns c =
    let cell : c.from.result ≡ get_or c.args.cells.now (c.args.end / 32) 0 % 2 ^ 32 = omega (arith, c.from.ensures) in
    rw (cell, c.from-2.ensures)
