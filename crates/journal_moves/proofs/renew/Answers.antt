-- `renew` meets its contract: by what was read, and what keeping it answers. Assumes nothing.
use mathlib.Core.Path.{sym, ap, ◌∙◌}
use Rattle.journal_moves.proofs.MoveLaws.{move_from, renew-refused, renew-moved}
use Rattle.journal_moves.proofs.renew.Goals as goal

pub returns-in-Done : goal.returns-in-Done
returns-in-Done c =
    let a = c.args in
    let m = renew-moved a.bytes.now a.buffer.now c.recall-recalled.ensures c.in-Record.is c.keep_words.ensures.value
    c.keep_words.ensures.buffer_after in
    record { value = ap (move_from _) (sym c.in-Done.is) ∙ m.0; buffer_after = m.1 }

pub returns-in-Refused-keep_words : goal.returns-in-Refused-keep_words
returns-in-Refused-keep_words c =
    let a = c.args in
    let m = renew-moved a.bytes.now a.buffer.now c.recall-recalled.ensures c.in-Record.is c.keep_words.ensures.value
    c.keep_words.ensures.buffer_after in
    record { value = ap (move_from _) (sym c.in-Refused-keep_words.is) ∙ m.0; buffer_after = m.1 }

pub returns-in-Refused : goal.returns-in-Refused
returns-in-Refused c =
    let a = c.args in
    let said = renew-refused a.bytes.now a.buffer.now c.recall-recalled.ensures c.in-Refused.is in
    record { value = said.0; buffer_after = said.1 }
