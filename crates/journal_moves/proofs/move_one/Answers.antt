-- `move_one` meets its contract: each way by its own function. Assumes nothing.
use mathlib.Core.Path.{sym, ap, ◌∙◌}
use lib.ListN.{length}
use Rattle.journal_moves.specs.Moving.{moved_by, moved_to}
use Rattle.journal_moves.proofs.move_one.Goals as goal

pub returns-in-New : goal.returns-in-New
returns-in-New c =
    let a = c.args in
    record { value = c.renew.ensures.value ∙ ap (λ w. moved_by w a.bytes.now (length a.buffer.now)) (sym c.in-New.is); buffer_after = c.renew.ensures.buffer_after ∙ ap (λ w. moved_to w a.bytes.now a.buffer.now) (sym c.in-New.is) }

pub returns-in-Old : goal.returns-in-Old
returns-in-Old c =
    let a = c.args in
    record { value = c.restore.ensures.value ∙ ap (λ w. moved_by w a.bytes.now (length a.buffer.now)) (sym c.in-Old.is); buffer_after = c.restore.ensures.buffer_after ∙ ap (λ w. moved_to w a.bytes.now a.buffer.now) (sym c.in-Old.is) }
