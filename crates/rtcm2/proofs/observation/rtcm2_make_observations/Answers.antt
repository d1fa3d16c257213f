-- `rtcm2_make_observations` meets its contract: the edition's refusal, the header's, or what keeping the made frame leaves. Assumes nothing.
use mathlib.Core.Path.{sym, ap, ◌∙◌}
use Rattle.record_stages.specs.Stages.{says_made}
use Rattle.rtcm2.specs.Answer.{and_then}
use Rattle.rtcm2.specs.Header.{headed, says_headed}
use Rattle.rtcm2.specs.Observations.{says_named, rows_made}
use Rattle.rtcm2.proofs.KeepLaws.{keeps-refused, keeps-as}
use Rattle.rtcm2.proofs.observation.rtcm2_make_observations.Goals as goal

pub returns-in-Header : goal.returns-in-Header
returns-in-Header c =
    let a = c.args in
    let x = c.in-Edition.named in
    let said = keeps-as a.frame.now a.length.now
    (ap says_made c.made_of.ensures
    ∙ ap (λ s. and_then (says_headed s)
    (λ g. rows_made x g (record { frequency = a.frequency; smoothing = a.smoothing; time = a.time }) a.observations.now))
    (sym c.in-Header.is ∙ c.header_of.ensures)
    ∙ ap (λ s. and_then (says_named s) (λ y. and_then (headed a.kind a.station a.z a.sequence a.health)
    (λ g. rows_made y g (record { frequency = a.frequency; smoothing = a.smoothing; time = a.time }) a.observations.now)))
    (sym c.in-Edition.is ∙ c.edition_of.ensures))
    (c.keep_made.ensures.value, (c.keep_made.ensures.frame_after, c.keep_made.ensures.length_after)) in
    record { value = said.0; frame_after = said.1.0; length_after = said.1.1 }

pub returns-in-Refused-header_of : goal.returns-in-Refused-header_of
returns-in-Refused-header_of c =
    let a = c.args in
    let x = c.in-Edition.named in
    let said = keeps-refused a.frame.now a.length.now
    (ap (λ s. and_then (says_headed s)
    (λ g. rows_made x g (record { frequency = a.frequency; smoothing = a.smoothing; time = a.time }) a.observations.now))
    (sym c.in-Refused-header_of.is ∙ c.header_of.ensures)
    ∙ ap (λ s. and_then (says_named s) (λ y. and_then (headed a.kind a.station a.z a.sequence a.health)
    (λ g. rows_made y g (record { frequency = a.frequency; smoothing = a.smoothing; time = a.time }) a.observations.now)))
    (sym c.in-Edition.is ∙ c.edition_of.ensures)) in
    record { value = said.0; frame_after = said.1.0; length_after = said.1.1 }

pub returns-in-Refused : goal.returns-in-Refused
returns-in-Refused c =
    let a = c.args in
    let said = keeps-refused a.frame.now a.length.now
    (ap (λ s. and_then (says_named s) (λ y. and_then (headed a.kind a.station a.z a.sequence a.health)
    (λ g. rows_made y g (record { frequency = a.frequency; smoothing = a.smoothing; time = a.time }) a.observations.now)))
    (sym c.in-Refused.is ∙ c.edition_of.ensures)) in
    record { value = said.0; frame_after = said.1.0; length_after = said.1.1 }
