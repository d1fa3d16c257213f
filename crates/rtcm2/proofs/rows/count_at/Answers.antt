-- `count_at` meets its contract: the record's refusal, or the count that its frame says. Assumes nothing.
use mathlib.Core.Path.{sym, ap, ◌∙◌}
use Rattle.record_stages.specs.Stages.{says_count}
use Rattle.rtcm2.specs.Rows.{counted_in}
use Rattle.rtcm2.proofs.RecallLaws.{frame-told, frame_refused}
use Rattle.rtcm2.proofs.RowLaws.{counts-refused, counts-as}
use Rattle.rtcm2.proofs.rows.count_at.Goals as goal

pub returns-in-Record : goal.returns-in-Record
returns-in-Record c =
    let a = c.args in
    let said = counts-as a.count.now
    (ap says_count c.count_in-said.ensures
    ∙ ap (counted_in a.layout a.head a.width) (frame-told a.frame.now c.recall-recalled.result c.recall-recalled.ensures (sym c.in-Record.is)))
    (c.count_to.ensures.value, c.count_to.ensures.count_after) in
    record { value = said.0; count_after = said.1 }

pub returns-in-Refused : goal.returns-in-Refused
returns-in-Refused c =
    let a = c.args in
    let said = counts-refused a.count.now
    (ap (counted_in a.layout a.head a.width)
    (frame_refused a.frame.now c.recall-recalled.result c.recall-recalled.ensures (sym c.in-Refused.is))) in
    record { value = said.0; count_after = said.1 }
