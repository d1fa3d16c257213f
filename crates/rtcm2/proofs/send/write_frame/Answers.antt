-- `write_frame` meets its contract: what the writer answers, as numbers. Assumes nothing.
use mathlib.Core.Path.{sym, ◌∙◌}
use Rattle.rtcm2.proofs.SendLaws.{sends-told}
use Rattle.rtcm2.proofs.send.write_frame.Goals as goal

pub returns-in-Done : goal.returns-in-Done
returns-in-Done c =
    let a = c.args in
    let said = sends-told a.d29.now a.d30.now a.line.now a.length.now a.value
    (sym c.in-Done.is ∙ c.write.ensures.value) c.write.ensures.buffer_after in
    record { value = said.0; d29_after = said.1.0; d30_after = said.1.1.0; line_after = said.1.1.1.0; length_after = said.1.1.1.1 }

pub returns-in-Refused : goal.returns-in-Refused
returns-in-Refused c =
    let a = c.args in
    let said = sends-told a.d29.now a.d30.now a.line.now a.length.now a.value
    (sym c.in-Refused.is ∙ c.write.ensures.value) c.write.ensures.buffer_after in
    record { value = said.0; d29_after = said.1.0; d30_after = said.1.1.0; line_after = said.1.1.1.0; length_after = said.1.1.1.1 }
