-- `rtcm2_read_epoch` meets its contract: the record's refusal, or the head that its frame reads as. Assumes nothing.
use mathlib.Core.Path.{◌≡◌, sym, ap, ◌∙◌}
use Rattle.record_observations.specs.Observations.{says_epoch_read}
use Rattle.record_observations.specs.declared.EpochRead.{EpochRead}
use Rattle.rtcm2.specs.Frames.{frame_said}
use Rattle.rtcm2.specs.Observations.{epoch_said, frequency_said, smoothing_said, time_said}
use Rattle.rtcm2.proofs.AnswerLaws.{number-as, left_as}
use Rattle.rtcm2.proofs.RecallLaws.{frame-told, frame_refused}
use Rattle.rtcm2.proofs.observation.rtcm2_read_epoch.Goals as goal

pub returns-in-At : goal.returns-in-At
returns-in-At c =
    let read : (p : EpochRead) → c.read_epoch.result ≡ p
    → says_epoch_read p ≡ epoch_said (frame_said c.args.frame.now) = λ p e. ap says_epoch_read (sym e ∙ c.read_epoch.ensures)
    ∙ ap epoch_said
    (frame-told c.args.frame.now c.recall-recalled.result c.recall-recalled.ensures (sym c.in-Record.is)) in
    let a = c.args in
    let e = read _ c.in-At.is in
    record { value = number-as e; frequency_after = left_as frequency_said a.frequency.now e; smoothing_after = left_as smoothing_said a.smoothing.now e; time_after = left_as time_said a.time.now e }

pub returns-in-Refused-read_epoch : goal.returns-in-Refused-read_epoch
returns-in-Refused-read_epoch c =
    let read : (p : EpochRead) → c.read_epoch.result ≡ p
    → says_epoch_read p ≡ epoch_said (frame_said c.args.frame.now) = λ p e. ap says_epoch_read (sym e ∙ c.read_epoch.ensures)
    ∙ ap epoch_said
    (frame-told c.args.frame.now c.recall-recalled.result c.recall-recalled.ensures (sym c.in-Record.is)) in
    let a = c.args in
    let e = read _ c.in-Refused-read_epoch.is in
    record { value = number-as e; frequency_after = left_as frequency_said a.frequency.now e; smoothing_after = left_as smoothing_said a.smoothing.now e; time_after = left_as time_said a.time.now e }

pub returns-in-Refused : goal.returns-in-Refused
returns-in-Refused c =
    let a = c.args in
    let e = ap epoch_said (frame_refused a.frame.now c.recall-recalled.result c.recall-recalled.ensures (sym c.in-Refused.is)) in
    record { value = number-as e; frequency_after = left_as frequency_said a.frequency.now e; smoothing_after = left_as smoothing_said a.smoothing.now e; time_after = left_as time_said a.time.now e }
