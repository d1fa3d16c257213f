-- `rtcm2_make_null` meets its contract: the header's refusal, or what keeping the made frame leaves. Assumes nothing.
use mathlib.Core.Path.{sym, ap, ◌∙◌}
use Rattle.record_stages.specs.Stages.{says_made}
use Rattle.record_nulls.specs.Nulls.{make_null}
use Rattle.rtcm2.proofs.HeadLaws.{head-told, head-refused}
use Rattle.rtcm2.proofs.KeepLaws.{keeps-refused, keeps-as}
use Rattle.rtcm2.proofs.null.rtcm2_make_null.Goals as goal

pub returns-in-Header : goal.returns-in-Header
returns-in-Header c =
    let a = c.args in
    let said = keeps-as a.frame.now a.length.now
    (ap says_made c.make_null.ensures
    ∙ head-told a.kind a.station a.z a.sequence a.health (λ x. says_made (make_null x a.n))
    (sym c.in-Header.is ∙ c.header_of.ensures))
    (c.keep_made.ensures.value, (c.keep_made.ensures.frame_after, c.keep_made.ensures.length_after)) in
    record { value = said.0; frame_after = said.1.0; length_after = said.1.1 }

pub returns-in-Refused : goal.returns-in-Refused
returns-in-Refused c =
    let a = c.args in
    let said = keeps-refused a.frame.now a.length.now
    (head-refused a.kind a.station a.z a.sequence a.health (λ x. says_made (make_null x a.n))
    (sym c.in-Refused.is ∙ c.header_of.ensures)) in
    record { value = said.0; frame_after = said.1.0; length_after = said.1.1 }
