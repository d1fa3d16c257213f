-- `rtcm2_write` meets its contract: the record's refusal, or what writing its frame leaves. Assumes nothing.
use mathlib.Core.Path.{sym}
use Rattle.rtcm2.proofs.RecallLaws.{frame-told, frame_refused}
use Rattle.rtcm2.proofs.SendLaws.{sends-refused, sends-as}
use Rattle.rtcm2.proofs.send.rtcm2_write.Goals as goal

pub returns-in-Record : goal.returns-in-Record
returns-in-Record c =
    let a = c.args in
    let said = sends-as a.d29.now a.d30.now a.line.now a.length.now
    (frame-told a.frame.now c.recall-recalled.result c.recall-recalled.ensures (sym c.in-Record.is))
    (c.write_frame.ensures.value, (c.write_frame.ensures.d29_after, (c.write_frame.ensures.d30_after, (c.write_frame.ensures.line_after, c.write_frame.ensures.length_after)))) in
    record { value = said.0; d29_after = said.1.0; d30_after = said.1.1.0; line_after = said.1.1.1.0; length_after = said.1.1.1.1 }

pub returns-in-Refused : goal.returns-in-Refused
returns-in-Refused c =
    let a = c.args in
    let said = sends-refused a.d29.now a.d30.now a.line.now a.length.now
    (frame_refused a.frame.now c.recall-recalled.result c.recall-recalled.ensures (sym c.in-Refused.is)) in
    record { value = said.0; d29_after = said.1.0; d30_after = said.1.1.0; line_after = said.1.1.1.0; length_after = said.1.1.1.1 }
