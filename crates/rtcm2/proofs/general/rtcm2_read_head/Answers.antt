-- `rtcm2_read_head` meets its contract: the record's refusal, or the head that its frame reads as. Assumes nothing.
use mathlib.Core.Path.{◌≡◌, sym, ap, ◌∙◌}
use Rattle.record_generals.specs.Generals.{says_head_read}
use Rattle.record_generals.specs.declared.HeadRead.{HeadRead}
use Rattle.rtcm2.specs.Frames.{frame_said}
use Rattle.rtcm2.specs.Generals.{head_said}
use Rattle.rtcm2.proofs.GeneralLaws.{heads-as}
use Rattle.rtcm2.proofs.RecallLaws.{frame-told, frame_refused}
use Rattle.rtcm2.proofs.general.rtcm2_read_head.Goals as goal

pub returns-in-Head : goal.returns-in-Head
returns-in-Head c =
    let read : (p : HeadRead) → c.read_head.result ≡ p
    → says_head_read p ≡ head_said (frame_said c.args.frame.now) = λ p e. ap says_head_read (sym e ∙ c.read_head.ensures)
    ∙ ap head_said
    (frame-told c.args.frame.now c.recall-recalled.result c.recall-recalled.ensures (sym c.in-Record.is)) in
    let a = c.args in
    let e = read _ c.in-Head.is in
    let said = heads-as a.system.now a.signal.now a.ephemeris.now a.period.now a.ionosphere.now e in
    record { value = said.0; system_after = said.1.0; signal_after = said.1.1.0; ephemeris_after = said.1.1.1.0; period_after = said.1.1.1.1.0; ionosphere_after = said.1.1.1.1.1 }

pub returns-in-Refused-read_head : goal.returns-in-Refused-read_head
returns-in-Refused-read_head c =
    let read : (p : HeadRead) → c.read_head.result ≡ p
    → says_head_read p ≡ head_said (frame_said c.args.frame.now) = λ p e. ap says_head_read (sym e ∙ c.read_head.ensures)
    ∙ ap head_said
    (frame-told c.args.frame.now c.recall-recalled.result c.recall-recalled.ensures (sym c.in-Record.is)) in
    let a = c.args in
    let e = read _ c.in-Refused-read_head.is in
    let said = heads-as a.system.now a.signal.now a.ephemeris.now a.period.now a.ionosphere.now e in
    record { value = said.0; system_after = said.1.0; signal_after = said.1.1.0; ephemeris_after = said.1.1.1.0; period_after = said.1.1.1.1.0; ionosphere_after = said.1.1.1.1.1 }

pub returns-in-Refused : goal.returns-in-Refused
returns-in-Refused c =
    let a = c.args in
    let e = ap head_said (frame_refused a.frame.now c.recall-recalled.result c.recall-recalled.ensures (sym c.in-Refused.is)) in
    let said = heads-as a.system.now a.signal.now a.ephemeris.now a.period.now a.ionosphere.now e in
    record { value = said.0; system_after = said.1.0; signal_after = said.1.1.0; ephemeris_after = said.1.1.1.0; period_after = said.1.1.1.1.0; ionosphere_after = said.1.1.1.1.1 }
