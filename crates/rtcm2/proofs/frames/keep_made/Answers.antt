-- `keep_made` meets its contract: the maker's refusal, or what keeping its frame leaves. Assumes nothing.
use mathlib.Core.Path.{sym}
use Rattle.rtcm2.proofs.KeepLaws.{keeps-refused, keeps-as, says-made, says-refused}
use Rattle.rtcm2.proofs.frames.keep_made.Goals as goal

pub returns-in-Done : goal.returns-in-Done
returns-in-Done c =
    let a = c.args in
    let said = keeps-as a.frame.now a.length.now (says-made a.made (sym c.in-Done.is))
    (c.keep_frame.ensures.value, (c.keep_frame.ensures.frame_after, c.keep_frame.ensures.length_after)) in
    record { value = said.0; frame_after = said.1.0; length_after = said.1.1 }

pub returns-in-Refused : goal.returns-in-Refused
returns-in-Refused c =
    let a = c.args in
    let said = keeps-refused a.frame.now a.length.now (says-refused a.made (sym c.in-Refused.is)) in
    record { value = said.0; frame_after = said.1.0; length_after = said.1.1 }
