-- `rtcm2_make_corrections` meets its contract: the header's refusal, or what keeping the made frame leaves. Assumes nothing.
use mathlib.Core.Path.{sym, ap, ◌∙◌}
use Rattle.record_stages.specs.Stages.{says_made}
use Rattle.record_corrections.specs.Corrections.{make_corrections}
use Rattle.rtcm2.specs.Header.{says_headed}
use Rattle.rtcm2.specs.Lists.{made_said}
use Rattle.rtcm2.specs.Corrections.{correction_list}
use Rattle.rtcm2.proofs.KeepLaws.{keeps-refused, keeps-as}
use Rattle.rtcm2.proofs.correction.rtcm2_make_corrections.Goals as goal

pub returns-in-Header : goal.returns-in-Header
unfolding make_corrections
returns-in-Header c =
    let a = c.args in
    let said = keeps-as a.frame.now a.length.now
    (ap says_made c.made_of.ensures
    ∙ ap (λ s. made_said correction_list s a.corrections.now) (ap says_headed (sym c.in-Header.is ∙ c.header_of.ensures)))
    (c.keep_made.ensures.value, (c.keep_made.ensures.frame_after, c.keep_made.ensures.length_after)) in
    record { value = said.0; frame_after = said.1.0; length_after = said.1.1 }

pub returns-in-Refused : goal.returns-in-Refused
returns-in-Refused c =
    let a = c.args in
    let said = keeps-refused a.frame.now a.length.now
    (ap (λ s. made_said correction_list s a.corrections.now) (ap says_headed (sym c.in-Refused.is ∙ c.header_of.ensures))) in
    record { value = said.0; frame_after = said.1.0; length_after = said.1.1 }
