-- `put_labelled` meets its contract: the label stored, and the number behind it, where there is room for both. Assumes nothing.
use mathlib.Core.Path.{refl, sym, ◌∙◌}
use Rattle.printing.proofs.PutLaws.{label-short, labelled-short, labelled-put}
use Rattle.printing.proofs.put_labelled.Goals as goal

pub returns-then-too_short : goal.returns-then-too_short
returns-then-too_short c =
    let a = c.args in
    let said = label-short a.n _ refl a.place a.buffer.now a.label.now (sym c.too_short.ensures ∙ c.if-too_short.true) in
    record { value = said.0; buffer_after = said.1 }

pub returns-then-too_short-2 : goal.returns-then-too_short-2
returns-then-too_short-2 c =
    let a = c.args in
    let said = labelled-short a.n _ c.digits_in-count.ensures a.place a.buffer.now a.label.now (sym c.too_short-2.ensures ∙ c.if-too_short-2.true) in
    record { value = said.0; buffer_after = said.1 }

pub returns : goal.returns
returns c =
    let a = c.args in
    let said = labelled-put a.n _ c.digits_in-count.ensures a.place a.buffer.now a.label.now _ c.copy_from_slice.ensures.after
    (sym c.too_short-2.ensures ∙ c.if-too_short-2.false) _ c.put_digits.ensures in
    record { value = said.0; buffer_after = said.1 }
