-- `rtcm2_delay_mm` meets its contract: each answer of the value, as a flag and a number. Assumes nothing.
use mathlib.Core.Path.{sym, ap, ◌∙◌}
use Rattle.record_values.specs.GeneralAnswer.{says_delay}
use Rattle.rtcm2.specs.Values.{usable_flag, delay_or0}
use Rattle.rtcm2.proofs.AnswerLaws.{two-left}
use Rattle.rtcm2.proofs.values.rtcm2_delay_mm.Goals as goal

pub returns-in-Millimetres : goal.returns-in-Millimetres
returns-in-Millimetres c =
    let a = c.args in
    let e = ap says_delay (sym c.in-Millimetres.is ∙ c.delay_mm.ensures) in
    let said = two-left usable_flag delay_or0 a.usable.now a.mm.now e in
    record { value = said.0; usable_after = said.1.0; mm_after = said.1.1 }

pub returns-in-Unusable : goal.returns-in-Unusable
returns-in-Unusable c =
    let a = c.args in
    let e = ap says_delay (sym c.in-Unusable.is ∙ c.delay_mm.ensures) in
    let said = two-left usable_flag delay_or0 a.usable.now a.mm.now e in
    record { value = said.0; usable_after = said.1.0; mm_after = said.1.1 }

pub returns-in-Refused : goal.returns-in-Refused
returns-in-Refused c =
    let a = c.args in
    let e = ap says_delay (sym c.in-Refused.is ∙ c.delay_mm.ensures) in
    let said = two-left usable_flag delay_or0 a.usable.now a.mm.now e in
    record { value = said.0; usable_after = said.1.0; mm_after = said.1.1 }
