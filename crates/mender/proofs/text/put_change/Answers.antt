-- `put_change` meets its contract: three numbers with spaces between them, and a newline. Assumes nothing.
use Rattle.std.proofs.Common.{arith}
use Rattle.printing.specs.Printing.{decimal}
use Rattle.printing.proofs.DigitLaws.{decimal-le}
use Rattle.printing.proofs.StoreLaws.{length-stored}
use Rattle.mender.proofs.TextLaws.{byte-short, last-room, newline-room, change-stored}
use Rattle.mender.proofs.text.put_change.Goals as goal

pub put_part-first-requires : goal.put_part-first-requires
put_part-first-requires c = let a = c.args in omega (arith, decimal-le a.at)

pub put_part-second-requires : goal.put_part-second-requires
put_part-second-requires c =
    let a = c.args in
    omega (
      arith,
      decimal-le a.at,
      byte-short a.old (omega arith),
      length-stored a.buffer.now a.place (decimal a.at) _ c.put_part-first.ensures.buffer_after,
      c.put_part-first.ensures.value,
    )

pub put_part-third-requires : goal.put_part-third-requires
put_part-third-requires c =
    let a = c.args in
    last-room a.at a.old a.new a.buffer.now a.place c.requires (omega arith) (omega arith)
    c.put_part-first.ensures.value c.put_part-first.ensures.buffer_after c.put_part-second.ensures.value c.put_part-second.ensures.buffer_after

pub bounds-buffer-third : goal.bounds-buffer-third
bounds-buffer-third c =
    let a = c.args in
    (newline-room a.at a.old a.new a.buffer.now a.place c.requires (omega arith) (omega arith)
    c.put_part-first.ensures.value c.put_part-first.ensures.buffer_after c.put_part-second.ensures.value c.put_part-second.ensures.buffer_after
    c.put_part-third.ensures.value c.put_part-third.ensures.buffer_after).1

pub overflow_add-result : goal.overflow_add-result
overflow_add-result c =
    let a = c.args in
    let room = newline-room a.at a.old a.new a.buffer.now a.place c.requires (omega arith) (omega arith)
    c.put_part-first.ensures.value c.put_part-first.ensures.buffer_after c.put_part-second.ensures.value c.put_part-second.ensures.buffer_after
    c.put_part-third.ensures.value c.put_part-third.ensures.buffer_after in
    omega (arith, room.0)

pub shape_of-buffer : goal.shape_of-buffer
shape_of-buffer c =
    let a = c.args in
    (newline-room a.at a.old a.new a.buffer.now a.place c.requires (omega arith) (omega arith)
    c.put_part-first.ensures.value c.put_part-first.ensures.buffer_after c.put_part-second.ensures.value c.put_part-second.ensures.buffer_after
    c.put_part-third.ensures.value c.put_part-third.ensures.buffer_after).2

pub returns : goal.returns
returns c =
    let a = c.args in
    let said = change-stored a.at a.old a.new a.buffer.now a.place c.put_part-first.ensures.value c.put_part-first.ensures.buffer_after
    c.put_part-second.ensures.value c.put_part-second.ensures.buffer_after c.put_part-third.ensures.value c.put_part-third.ensures.buffer_after in
    record { value = said.0; buffer_after = said.1 }
