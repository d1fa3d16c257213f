-- `rtcm2_health_at` meets its contract: the record's refusal, the reading's, or what putting the row leaves. Assumes nothing.
use mathlib.Core.Path.{sym, ap, ◌∙◌}
use Rattle.frame.specs.declared.System.TheVariants.{Gps}
use Rattle.record_healths.specs.Healths.{health_at, says_health_read}
use Rattle.rtcm2_rows.specs.Rows.{row_after, says_put}
use Rattle.rtcm2_rows.specs.Tables.{table_row}
use Rattle.rtcm2.specs.Answer.{number_of}
use Rattle.rtcm2.specs.Lists.{entry_said}
use Rattle.rtcm2.specs.Healths.{sizes, row, health_list}
use Rattle.rtcm2.proofs.RecallLaws.{frame-told, frame_refused}
use Rattle.rtcm2.proofs.RowLaws.{puts-refused, puts-as}
use Rattle.rtcm2.proofs.health.rtcm2_health_at.Goals as goal

pub returns-in-Refused : goal.returns-in-Refused
returns-in-Refused c =
    let a = c.args in
    let said = puts-refused (row Gps) a.bytes.now
    (ap (λ s. entry_said health_list s a.index)
    (frame_refused a.frame.now c.recall-recalled.result c.recall-recalled.ensures (sym c.in-Refused.is))) in
    record { value = said.0; bytes_after = said.1 }

pub returns-in-Entry : goal.returns-in-Entry
unfolding health_at
returns-in-Entry c =
    let a = c.args in
    let said = puts-as (row Gps) a.bytes.now
    (ap says_health_read (sym c.in-Entry.is ∙ c.health_at.ensures)
    ∙ ap (λ s. entry_said health_list s a.index)
    (frame-told a.frame.now c.recall-recalled.result c.recall-recalled.ensures (sym c.in_default.is))) (
      c.number_of.ensures ∙ ap (λ x. number_of (says_put x)) c.put_numbers.ensures.value,
      c.put_numbers.ensures.bytes_after ∙ ap (λ v. row_after (table_row sizes) v a.bytes.now) c.row_of-numbers.ensures,
    ) in
    record { value = said.0; bytes_after = said.1 }

pub returns-in-Refused-health_at : goal.returns-in-Refused-health_at
unfolding health_at
returns-in-Refused-health_at c =
    let a = c.args in
    let said = puts-refused (row Gps) a.bytes.now
    (ap says_health_read (sym c.in-Refused-health_at.is ∙ c.health_at.ensures)
    ∙ ap (λ s. entry_said health_list s a.index)
    (frame-told a.frame.now c.recall-recalled.result c.recall-recalled.ensures (sym c.in_default.is))) in
    record { value = said.0; bytes_after = said.1 }
