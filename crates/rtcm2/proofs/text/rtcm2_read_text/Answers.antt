-- `rtcm2_read_text` meets its contract: the record's refusal, or what reading its frame leaves. Assumes nothing.
use mathlib.Core.Path.{sym, ap, ◌∙◌}
use Rattle.record_stages.specs.Stages.{says_count}
use Rattle.rtcm2.specs.Answer.{number_of, left}
use Rattle.rtcm2.proofs.RecallLaws.{frame-told, frame_refused}
use Rattle.rtcm2.proofs.TextLaws.{reads-refused, reads_as}
use Rattle.rtcm2.proofs.text.rtcm2_read_text.Goals as goal

pub returns-in-Of : goal.returns-in-Of
returns-in-Of c =
    let a = c.args in
    let e = sym c.in-Of.is ∙ c.read_text.ensures.0 in
    let said = reads_as a.text.now a.length.now
    (frame-told a.frame.now c.recall-recalled.result c.recall-recalled.ensures (sym c.in-Record.is))
    (ap (λ x. number_of (says_count x)) e, (c.read_text.ensures.1, ap (λ x. left (says_count x) (λ k. k) a.length.now) e)) in
    record { value = said.0; text_after = said.1.0; length_after = said.1.1 }

pub returns-in-Refused-read_text : goal.returns-in-Refused-read_text
returns-in-Refused-read_text c =
    let a = c.args in
    let e = sym c.in-Refused-read_text.is ∙ c.read_text.ensures.0 in
    let said = reads_as a.text.now a.length.now
    (frame-told a.frame.now c.recall-recalled.result c.recall-recalled.ensures (sym c.in-Record.is))
    (ap (λ x. number_of (says_count x)) e, (c.read_text.ensures.1, ap (λ x. left (says_count x) (λ k. k) a.length.now) e)) in
    record { value = said.0; text_after = said.1.0; length_after = said.1.1 }

pub returns-in-Refused : goal.returns-in-Refused
returns-in-Refused c =
    let a = c.args in
    let said = reads-refused a.text.now a.length.now
    (frame_refused a.frame.now c.recall-recalled.result c.recall-recalled.ensures (sym c.in-Refused.is)) in
    record { value = said.0; text_after = said.1.0; length_after = said.1.1 }
