-- `rtcm2_keep_words` meets its contract: the record's refusal, or what keeping the words of its frame leaves. Assumes nothing.
use mathlib.Core.Path.{sym}
use Rattle.rtcm2.proofs.RecallLaws.{frame-told, frame_refused}
use Rattle.rtcm2.proofs.WordsLaws.{words-refused, words-as}
use Rattle.rtcm2.proofs.words.rtcm2_keep_words.Goals as goal

pub returns-in-Record : goal.returns-in-Record
returns-in-Record c =
    let a = c.args in
    let said = words-as a.d29 a.d30 a.words.now a.length.now
    (frame-told a.frame.now c.recall-recalled.result c.recall-recalled.ensures (sym c.in-Record.is))
    (c.keep_after.ensures.value, (c.keep_after.ensures.words_after, c.keep_after.ensures.length_after)) in
    record { value = said.0; words_after = said.1.0; length_after = said.1.1 }

pub returns-in-Refused : goal.returns-in-Refused
returns-in-Refused c =
    let a = c.args in
    let said = words-refused a.d29 a.d30 a.words.now a.length.now
    (frame_refused a.frame.now c.recall-recalled.result c.recall-recalled.ensures (sym c.in-Refused.is)) in
    record { value = said.0; words_after = said.1.0; length_after = said.1.1 }
