-- `put_total` meets its contract: the label, and the number after it; there is room for both. Assumes nothing.
use Rattle.std.proofs.Common.{◌+◌, ◌++◌, length, arith}
use Rattle.printing.specs.Printing.{decimal}
use Rattle.printing.proofs.PutLaws.{told, not-refused, labelled-le}
use Rattle.listing.proofs.text.put_total.Goals as goal

pub returns-in_default : goal.returns-in_default
returns-in_default c =
    let a = c.args in
    let label = a.label.now in
    absurd (not-refused (label ++ decimal a.total) a.place a.buffer.now (length label + 20) (labelled-le label a.total) (omega arith)
    _ _ (c.put_labelled.ensures.value, c.put_labelled.ensures.buffer_after) _ c.in_default.is)

pub returns : goal.returns
returns c =
    let a = c.args in
    let label = a.label.now in
    let it = told (label ++ decimal a.total) a.place a.buffer.now (length label + 20) (labelled-le label a.total) (omega arith)
    _ _ (c.put_labelled.ensures.value, c.put_labelled.ensures.buffer_after) _ c.in-Ok.is in
    record { value = (it.0, omega (arith, it.1)); buffer_after = it.2 }
