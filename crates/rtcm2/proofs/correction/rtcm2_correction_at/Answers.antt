-- `rtcm2_correction_at` meets its contract: the record's refusal, the reading's, or what putting the row leaves. Assumes nothing.
use mathlib.Core.Path.{sym, ap, ◌∙◌}
use Rattle.frame.specs.declared.System.TheVariants.{Gps}
use Rattle.record_corrections.specs.Corrections.{correction_at, says_correction_read}
use Rattle.rtcm2_rows.specs.Rows.{says_put}
use Rattle.rtcm2_rows.specs.Corrections.{row}
use Rattle.rtcm2.specs.Answer.{number_of}
use Rattle.rtcm2.specs.Lists.{entry_said}
use Rattle.rtcm2.specs.Corrections.{correction_list}
use Rattle.rtcm2.proofs.RecallLaws.{frame-told, frame_refused}
use Rattle.rtcm2.proofs.RowLaws.{puts-refused, puts-as}
use Rattle.rtcm2.proofs.correction.rtcm2_correction_at.Goals as goal

pub returns-in-Refused : goal.returns-in-Refused
returns-in-Refused c =
    let a = c.args in
    let said = puts-refused (row Gps) a.correction.now
    (ap (λ s. entry_said correction_list s a.index)
    (frame_refused a.frame.now c.recall-recalled.result c.recall-recalled.ensures (sym c.in-Refused.is))) in
    record { value = said.0; correction_after = said.1 }

pub returns-in-Entry : goal.returns-in-Entry
unfolding correction_at
returns-in-Entry c =
    let a = c.args in
    let said = puts-as (row Gps) a.correction.now
    (ap says_correction_read (sym c.in-Entry.is ∙ c.correction_at.ensures)
    ∙ ap (λ s. entry_said correction_list s a.index)
    (frame-told a.frame.now c.recall-recalled.result c.recall-recalled.ensures (sym c.in_default.is)))
    (c.number_of.ensures ∙ ap (λ x. number_of (says_put x)) c.put_correction.ensures.value, c.put_correction.ensures.bytes_after) in
    record { value = said.0; correction_after = said.1 }

pub returns-in-Refused-correction_at : goal.returns-in-Refused-correction_at
unfolding correction_at
returns-in-Refused-correction_at c =
    let a = c.args in
    let said = puts-refused (row Gps) a.correction.now
    (ap says_correction_read (sym c.in-Refused-correction_at.is ∙ c.correction_at.ensures)
    ∙ ap (λ s. entry_said correction_list s a.index)
    (frame-told a.frame.now c.recall-recalled.result c.recall-recalled.ensures (sym c.in_default.is))) in
    record { value = said.0; correction_after = said.1 }
