-- `put_five` meets its contract: thirty bits at once leave what six and six leave. Assumes nothing.
use Rattle.std.proofs.Common.{◌≡◌, ◌-◌, ◌/◌, ◌%◌, get_or, ◌^◌, ◌∙◌, div-le_self, arith}
use Rattle.reader.specs.Cells.{put_five}
use Rattle.reader.proofs.Bursting.{sixes-make, five-law}
use Rattle.reader.proofs.cells.put_five.Goals as goal

pub overflow_mul-both : goal.overflow_mul-both
overflow_mul-both c = omega (arith, c.from.ensures, div-le_self c.from.result (2 ^ (32 - c.args.end % 32)))

pub overflow_add-both : goal.overflow_add-both
overflow_add-both c =
    omega (arith, c.from.ensures, c.from-2.ensures, div-le_self c.from.result (2 ^ (32 - c.args.end % 32)))

pub returns : goal.returns
unfolding put_five
returns c =
    let a = c.args in
    let cell : c.from.result ≡ get_or a.cells.now (a.end / 32) 0 % 2 ^ 32 = omega (arith, c.from.ensures) in
    rw (cell, c.from-2.ensures ∙ sixes-make a.thirty c.requires.2)
    (five-law a.cells.now a.end _ _ _ _ _ c.requires.0 c.requires.1 (omega arith) (omega arith) (omega arith) (omega arith) (omega arith))
