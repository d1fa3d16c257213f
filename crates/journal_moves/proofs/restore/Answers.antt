-- `restore` meets its contract: by what was read, and what keeping it answers. Assumes nothing.
use mathlib.Core.Path.{sym, ap, ◌∙◌}
use Rattle.journal_moves.proofs.MoveLaws.{move_from, restore-refused, restore-moved}
use Rattle.journal_moves.proofs.restore.Goals as goal

pub returns-in-Done : goal.returns-in-Done
returns-in-Done c =
    let a = c.args in
    let m = restore-moved a.bytes.now a.buffer.now c.recall_words-recalled.ensures c.in-Record.is c.keep.ensures.value
    c.keep.ensures.buffer_after in
    record { value = ap (move_from _) (sym c.in-Done.is) ∙ m.0; buffer_after = m.1 }

pub returns-in-Refused-keep : goal.returns-in-Refused-keep
returns-in-Refused-keep c =
    let a = c.args in
    let m = restore-moved a.bytes.now a.buffer.now c.recall_words-recalled.ensures c.in-Record.is c.keep.ensures.value
    c.keep.ensures.buffer_after in
    record { value = ap (move_from _) (sym c.in-Refused-keep.is) ∙ m.0; buffer_after = m.1 }

pub returns-in-Refused : goal.returns-in-Refused
returns-in-Refused c =
    let a = c.args in
    let said = restore-refused a.bytes.now a.buffer.now c.recall_words-recalled.ensures c.in-Refused.is in
    record { value = said.0; buffer_after = said.1 }
