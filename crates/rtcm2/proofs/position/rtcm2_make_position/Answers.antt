-- `rtcm2_make_position` meets its contract: the header's refusal, or what keeping the made frame leaves. Assumes nothing.
use mathlib.Core.Path.{sym, ap, ◌∙◌}
use mir.Syntax.{w32}
use mir.ValLaws.{to_z-of_z}
use Rattle.record_stages.specs.Stages.{says_made}
use Rattle.record_positions.specs.Positions.{make_position}
use Rattle.rtcm2.proofs.HeadLaws.{head-told, head-refused}
use Rattle.rtcm2.proofs.KeepLaws.{keeps-refused, keeps-as}
use Rattle.rtcm2.proofs.PositionLaws.{same-position}
use Rattle.rtcm2.proofs.position.rtcm2_make_position.Goals as goal

pub returns-in-Header : goal.returns-in-Header
returns-in-Header c =
    let a = c.args in
    let x = to_z-of_z w32 a.x_cm c.ranges.x_cm in
    let y = to_z-of_z w32 a.y_cm c.ranges.y_cm in
    let z = to_z-of_z w32 a.z_cm c.ranges.z_cm in
    let said = keeps-as a.frame.now a.length.now
    (ap says_made (c.make_position.ensures ∙ ap (make_position c.in-Header.header) (same-position x y z))
    ∙ head-told a.kind a.station a.z a.sequence a.health
    (λ g. says_made (make_position g (record { x = a.x_cm; y = a.y_cm; z = a.z_cm }))) (sym c.in-Header.is ∙ c.header_of.ensures))
    (c.keep_made.ensures.value, (c.keep_made.ensures.frame_after, c.keep_made.ensures.length_after)) in
    record { value = said.0; frame_after = said.1.0; length_after = said.1.1 }

pub returns-in-Refused : goal.returns-in-Refused
returns-in-Refused c =
    let a = c.args in
    let said = keeps-refused a.frame.now a.length.now
    (head-refused a.kind a.station a.z a.sequence a.health
    (λ g. says_made (make_position g (record { x = a.x_cm; y = a.y_cm; z = a.z_cm }))) (sym c.in-Refused.is ∙ c.header_of.ensures)) in
    record { value = said.0; frame_after = said.1.0; length_after = said.1.1 }
