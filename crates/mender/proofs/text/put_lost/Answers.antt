-- `put_lost` meets its contract: the label, the offset, and a newline. Assumes nothing.
use Rattle.std.proofs.Common.{◌∷◌, arith}
use Rattle.printing.specs.Printing.{decimal}
use Rattle.printing.proofs.DigitLaws.{decimal-le}
use Rattle.printing.proofs.StoreLaws.{length-stored, length_marked}
use Rattle.mender.proofs.TextLaws.{lost-stored}
use Rattle.mender.proofs.text.put_lost.Goals as goal

pub put_part-next-requires : goal.put_part-next-requires
put_part-next-requires c = let a = c.args in omega (arith, decimal-le a.at)

pub bounds-buffer-next : goal.bounds-buffer-next
bounds-buffer-next c =
    let a = c.args in
    omega (
      arith,
      decimal-le a.at,
      length-stored a.buffer.now 0 (108 ∷ 111 ∷ 115 ∷ 116 ∷ 32 ∷ decimal a.at) _ c.put_part-next.ensures.buffer_after,
      c.put_part-next.ensures.value,
    )

pub overflow_add-result : goal.overflow_add-result
overflow_add-result c =
    let a = c.args in
    omega (arith, decimal-le a.at, c.put_part-next.ensures.value)

pub shape_of-buffer : goal.shape_of-buffer
shape_of-buffer c =
    let a = c.args in
    length_marked a.buffer.now 0 (108 ∷ 111 ∷ 115 ∷ 116 ∷ 32 ∷ decimal a.at) _ c.put_part-next.ensures.buffer_after _ 10

pub returns : goal.returns
returns c =
    let a = c.args in
    let said = lost-stored a.at a.buffer.now c.put_part-next.ensures.value c.put_part-next.ensures.buffer_after in
    record { value = said.0; buffer_after = said.1 }
