-- `rtcm2_general_at` meets its contract: the record's refusal, or what putting the entry of its frame leaves. Assumes nothing.
use mathlib.Core.Path.{sym, ap, ◌∙◌}
use Rattle.record_generals.specs.Generals.{says_general_read}
use Rattle.rtcm2_rows.specs.Generals.{row}
use Rattle.rtcm2.specs.Generals.{entry_said}
use Rattle.rtcm2.proofs.RecallLaws.{frame-told, frame_refused}
use Rattle.rtcm2.proofs.RowLaws.{puts-refused, puts-as}
use Rattle.rtcm2.proofs.general.rtcm2_general_at.Goals as goal

pub returns-in-Record : goal.returns-in-Record
returns-in-Record c =
    let a = c.args in
    let said = puts-as row a.general.now
    (ap says_general_read c.general_at-read.ensures
    ∙ ap (λ s. entry_said s a.index)
    (frame-told a.frame.now c.recall-recalled.result c.recall-recalled.ensures (sym c.in-Record.is)))
    (c.entry_to.ensures.value, c.entry_to.ensures.general_after) in
    record { value = said.0; general_after = said.1 }

pub returns-in-Refused : goal.returns-in-Refused
returns-in-Refused c =
    let a = c.args in
    let said = puts-refused row a.general.now
    (ap (λ s. entry_said s a.index)
    (frame_refused a.frame.now c.recall-recalled.result c.recall-recalled.ensures (sym c.in-Refused.is))) in
    record { value = said.0; general_after = said.1 }
