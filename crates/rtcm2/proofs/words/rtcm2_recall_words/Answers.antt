-- `rtcm2_recall_words` meets its contract: the record's refusal, or what giving its frame back leaves. Assumes nothing.
use mathlib.Core.Path.{sym}
use Rattle.rtcm2.proofs.WordsLaws.{back-refused, back_as, live-told, live-refused}
use Rattle.rtcm2.proofs.words.rtcm2_recall_words.Goals as goal

pub returns-in-Record : goal.returns-in-Record
returns-in-Record c =
    let a = c.args in
    let said = back_as a.frame.now a.d29.now a.d30.now a.read.now a.length.now
    (live-told a.words.now c.recall_words-recalled.result c.recall_words-recalled.ensures (sym c.in-Record.is))
    (c.give_back.ensures.value, (c.give_back.ensures.frame_after, (c.give_back.ensures.d29_after, (c.give_back.ensures.d30_after, (c.give_back.ensures.read_after, c.give_back.ensures.length_after))))) in
    record { value = said.0; frame_after = said.1.0; d29_after = said.1.1.0; d30_after = said.1.1.1.0; read_after = said.1.1.1.1.0; length_after = said.1.1.1.1.1 }

pub returns-in-Refused : goal.returns-in-Refused
returns-in-Refused c =
    let a = c.args in
    let said = back-refused a.frame.now a.d29.now a.d30.now a.read.now a.length.now
    (live-refused a.words.now c.recall_words-recalled.result c.recall_words-recalled.ensures (sym c.in-Refused.is)) in
    record { value = said.0; frame_after = said.1.0; d29_after = said.1.1.0; d30_after = said.1.1.1.0; read_after = said.1.1.1.1.0; length_after = said.1.1.1.1.1 }
