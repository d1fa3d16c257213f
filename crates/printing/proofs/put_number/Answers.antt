-- `put_number` meets its contract: its digits counted, and stored where there is room. Assumes nothing.
use mathlib.Core.Path.{sym, ◌∙◌}
use Rattle.printing.proofs.PutLaws.{number_short, number_put}
use Rattle.printing.proofs.put_number.Goals as goal

pub returns-then-too_short : goal.returns-then-too_short
returns-then-too_short c =
    let a = c.args in
    let said = number_short a.n _ c.digits_in-count.ensures a.place a.buffer.now (sym c.too_short.ensures ∙ c.if-too_short.true) in
    record { value = said.0; buffer_after = said.1 }

pub returns : goal.returns
returns c =
    let a = c.args in
    let said = number_put a.n _ c.digits_in-count.ensures a.place a.buffer.now (sym c.too_short.ensures ∙ c.if-too_short.false) _ c.put_digits.ensures in
    record { value = said.0; buffer_after = said.1 }
