-- `put_part` meets its contract: the label, and the number after it; there is room for both. Assumes nothing.
use Rattle.std.proofs.Common.{◌++◌, length, arith}
use Rattle.printing.specs.Printing.{decimal}
use Rattle.printing.proofs.PutLaws.{told, not-refused}
use Rattle.mender.proofs.text.put_part.Goals as goal

pub returns-in_default : goal.returns-in_default
returns-in_default c =
    let text = c.args.label.now ++ decimal c.args.n in
    absurd (not-refused text c.args.place c.args.buffer.now (length text) (omega arith) c.requires
    _ _ (c.put_labelled.ensures.value, c.put_labelled.ensures.buffer_after) _ c.in_default.is)

pub returns : goal.returns
returns c =
    let text = c.args.label.now ++ decimal c.args.n in
    let it = told text c.args.place c.args.buffer.now (length text) (omega arith) c.requires
    _ _ (c.put_labelled.ensures.value, c.put_labelled.ensures.buffer_after) _ c.in-Ok.is in
    record { value = it.0; buffer_after = it.2 }
