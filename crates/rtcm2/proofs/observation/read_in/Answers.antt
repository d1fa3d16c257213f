-- `read_in` meets its contract: the edition's refusal, or what putting the satellite leaves. Assumes nothing.
use mathlib.Core.Path.{sym, ap, ◌∙◌}
use Rattle.record_observations.specs.Observations.{observation_at, says_observation_read}
use Rattle.rtcm2_rows.specs.Observations.{row}
use Rattle.rtcm2.specs.Answer.{and_then}
use Rattle.rtcm2.specs.Observations.{says_named}
use Rattle.rtcm2.proofs.RowLaws.{puts-refused, puts-as}
use Rattle.rtcm2.proofs.observation.read_in.Goals as goal

pub returns-in-Edition : goal.returns-in-Edition
returns-in-Edition c =
    let a = c.args in
    let said = puts-as row a.observation.now
    (ap says_observation_read c.observation_at-read.ensures
    ∙ ap (λ s. and_then (says_named s) (λ x. says_observation_read (observation_at x a.frame a.index))) (sym c.in-Edition.is ∙ c.edition_of.ensures))
    (c.entry_to.ensures.value, c.entry_to.ensures.observation_after) in
    record { value = said.0; observation_after = said.1 }

pub returns-in-Refused : goal.returns-in-Refused
returns-in-Refused c =
    let a = c.args in
    let said = puts-refused row a.observation.now
    (ap (λ s. and_then (says_named s) (λ x. says_observation_read (observation_at x a.frame a.index))) (sym c.in-Refused.is
    ∙ c.edition_of.ensures)) in
    record { value = said.0; observation_after = said.1 }
