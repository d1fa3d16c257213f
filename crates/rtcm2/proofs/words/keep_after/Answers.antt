-- `keep_after` meets its contract: what the journal answers of the frame after the two bits, as numbers. Assumes nothing.
use mathlib.Core.Path.{sym, ◌∙◌}
use Rattle.frame.specs.Frames.{after_pair}
use Rattle.rtcm2.proofs.WordsLaws.{words-told}
use Rattle.rtcm2.proofs.words.keep_after.Goals as goal

pub returns-in-Done : goal.returns-in-Done
unfolding after_pair
returns-in-Done c =
    let a = c.args in
    let said = words-told a.d29 a.d30 a.words.now a.length.now a.value
    (sym c.in-Done.is ∙ c.keep_words.ensures.value) c.keep_words.ensures.buffer_after in
    record { value = said.0; words_after = said.1.0; length_after = said.1.1 }

pub returns-in-Refused : goal.returns-in-Refused
unfolding after_pair
returns-in-Refused c =
    let a = c.args in
    let said = words-told a.d29 a.d30 a.words.now a.length.now a.value
    (sym c.in-Refused.is ∙ c.keep_words.ensures.value) c.keep_words.ensures.buffer_after in
    record { value = said.0; words_after = said.1.0; length_after = said.1.1 }
