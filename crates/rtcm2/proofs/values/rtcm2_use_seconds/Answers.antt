-- `rtcm2_use_seconds` meets its contract: the code's refusal, or its seconds. Assumes nothing.
use mathlib.Core.Path.{refl, sym, ap, ◌∙◌}
use Rattle.record_values.specs.GeneralAnswer.{says_period}
use Rattle.rtcm2.proofs.RowLaws.{counts-refused, counts-as}
use Rattle.rtcm2.proofs.values.rtcm2_use_seconds.Goals as goal

pub returns-in-Seconds : goal.returns-in-Seconds
returns-in-Seconds c =
    let said = counts-as c.args.seconds.now (ap says_period (sym c.in-Seconds.is ∙ c.use_seconds.ensures)) (refl, refl) in
    record { value = said.0; seconds_after = said.1 }

pub returns-in-Refused : goal.returns-in-Refused
returns-in-Refused c =
    let said = counts-refused c.args.seconds.now (ap says_period (sym c.in-Refused.is ∙ c.use_seconds.ensures)) in
    record { value = said.0; seconds_after = said.1 }
