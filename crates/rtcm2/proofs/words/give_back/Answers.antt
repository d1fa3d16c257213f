-- `give_back` meets its contract: what the journal answers of the frame, as numbers. Assumes nothing.
use mathlib.Core.Path.{sym, ◌∙◌}
use Rattle.rtcm2.proofs.WordsLaws.{back-told}
use Rattle.rtcm2.proofs.words.give_back.Goals as goal

pub returns-in-Done : goal.returns-in-Done
returns-in-Done c =
    let a = c.args in
    let said = back-told a.frame.now a.d29.now a.d30.now a.read.now a.length.now a.size a.value
    (sym c.in-Done.is ∙ c.keep.ensures.value) c.keep.ensures.buffer_after in
    record { value = said.0; frame_after = said.1.0; d29_after = said.1.1.0; d30_after = said.1.1.1.0; read_after = said.1.1.1.1.0; length_after = said.1.1.1.1.1 }

pub returns-in-Refused : goal.returns-in-Refused
returns-in-Refused c =
    let a = c.args in
    let said = back-told a.frame.now a.d29.now a.d30.now a.read.now a.length.now a.size a.value
    (sym c.in-Refused.is ∙ c.keep.ensures.value) c.keep.ensures.buffer_after in
    record { value = said.0; frame_after = said.1.0; d29_after = said.1.1.0; d30_after = said.1.1.1.0; read_after = said.1.1.1.1.0; length_after = said.1.1.1.1.1 }
