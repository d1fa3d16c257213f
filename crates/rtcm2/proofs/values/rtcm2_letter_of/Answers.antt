-- `rtcm2_letter_of` meets its contract: the letter's refusal, or its number. Assumes nothing.
use mathlib.Core.Path.{refl, sym, ap, ◌∙◌}
use Rattle.record_values.specs.Answer.{says_letter}
use Rattle.rtcm2.proofs.RowLaws.{counts-refused, counts-as}
use Rattle.rtcm2.proofs.values.rtcm2_letter_of.Goals as goal

pub returns-in-Unicode : goal.returns-in-Unicode
returns-in-Unicode c =
    let said = counts-as c.args.letter.now (ap says_letter (sym c.in-Unicode.is ∙ c.letter_of.ensures)) (refl, refl) in
    record { value = said.0; letter_after = said.1 }

pub returns-in-Refused : goal.returns-in-Refused
returns-in-Refused c =
    let said = counts-refused c.args.letter.now (ap says_letter (sym c.in-Refused.is ∙ c.letter_of.ensures)) in
    record { value = said.0; letter_after = said.1 }
