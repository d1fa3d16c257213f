-- `rtcm2_read_position` meets its contract: the record's refusal, or what its frame reads as. Assumes nothing.
use mathlib.Core.Path.{◌≡◌, sym, ap, ◌∙◌}
use mir.Syntax.{w32}
use mir.Val.{to_z, of_z}
use borrow.Author.Rules.{rules}
use Rattle.record_positions.specs.Positions.{says_position_read}
use Rattle.record_positions.specs.declared.PositionRead.{PositionRead}
use Rattle.rtcm2.specs.Frames.{frame_said}
use Rattle.rtcm2.specs.Positions.{position_said, x_said, y_said, z_said}
use Rattle.rtcm2.proofs.AnswerLaws.{number-as, left_as}
use Rattle.rtcm2.proofs.RecallLaws.{frame-told, frame_refused}
use Rattle.rtcm2.proofs.position.rtcm2_read_position.Goals as goal

pub returns-in-At : goal.returns-in-At
returns-in-At c =
    let read : (p : PositionRead) → c.read_position.result ≡ p
    → says_position_read p ≡ position_said (frame_said c.args.frame.now) = λ p e. ap says_position_read (sym e ∙ c.read_position.ensures)
    ∙ ap position_said
    (frame-told c.args.frame.now c.recall-recalled.result c.recall-recalled.ensures (sym c.in-Record.is)) in
    let a = c.args in
    let v = c.in-At.position in
    let e = read _ c.in-At.is in
    let x : to_z w32 (of_z w32 v.x) ≡ v.x = search rules in
    let y : to_z w32 (of_z w32 v.y) ≡ v.y = search rules in
    let z : to_z w32 (of_z w32 v.z) ≡ v.z = search rules in
    record { value = number-as e; x_cm_after = x ∙ left_as x_said a.x_cm.now e; y_cm_after = y ∙ left_as y_said a.y_cm.now e; z_cm_after = z ∙ left_as z_said a.z_cm.now e }

pub returns-in-Refused-read_position : goal.returns-in-Refused-read_position
returns-in-Refused-read_position c =
    let read : (p : PositionRead) → c.read_position.result ≡ p
    → says_position_read p ≡ position_said (frame_said c.args.frame.now) = λ p e. ap says_position_read (sym e ∙ c.read_position.ensures)
    ∙ ap position_said
    (frame-told c.args.frame.now c.recall-recalled.result c.recall-recalled.ensures (sym c.in-Record.is)) in
    let a = c.args in
    let e = read _ c.in-Refused-read_position.is in
    record { value = number-as e; x_cm_after = left_as x_said a.x_cm.now e; y_cm_after = left_as y_said a.y_cm.now e; z_cm_after = left_as z_said a.z_cm.now e }

pub returns-in-Refused : goal.returns-in-Refused
returns-in-Refused c =
    let a = c.args in
    let e = ap position_said (frame_refused a.frame.now c.recall-recalled.result c.recall-recalled.ensures (sym c.in-Refused.is)) in
    record { value = number-as e; x_cm_after = left_as x_said a.x_cm.now e; y_cm_after = left_as y_said a.y_cm.now e; z_cm_after = left_as z_said a.z_cm.now e }
