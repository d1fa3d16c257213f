-- `rtcm2_keep` meets its contract: the header's refusal, or what keeping its frame leaves. Assumes nothing.
use mathlib.Core.Path.{sym, ◌∙◌}
use Rattle.rtcm2.specs.Frames.{words_said}
use Rattle.rtcm2.proofs.HeadLaws.{head-told, head-refused}
use Rattle.rtcm2.proofs.KeepLaws.{keeps-refused, keeps-as}
use Rattle.rtcm2.proofs.frames.rtcm2_keep.Goals as goal

pub returns-in-Header : goal.returns-in-Header
returns-in-Header c =
    let a = c.args in
    let said = keeps-as a.frame.now a.length.now
    (head-told a.kind a.station a.z a.sequence a.health (λ x. words_said x a.bytes.now)
    (sym c.in-Header.is ∙ c.header_of.ensures))
    (c.keep_data.ensures.value, (c.keep_data.ensures.frame_after, c.keep_data.ensures.length_after)) in
    record { value = said.0; frame_after = said.1.0; length_after = said.1.1 }

pub returns-in-Refused : goal.returns-in-Refused
returns-in-Refused c =
    let a = c.args in
    let said = keeps-refused a.frame.now a.length.now
    (head-refused a.kind a.station a.z a.sequence a.health (λ x. words_said x a.bytes.now)
    (sym c.in-Refused.is ∙ c.header_of.ensures)) in
    record { value = said.0; frame_after = said.1.0; length_after = said.1.1 }
