-- `keep_cut` meets its contract: the refusal that there was, or what keeping the frames leaves. Assumes nothing.
use mathlib.Core.Path.{sym}
use Rattle.profile.proofs.Said.{says-cut, says-uncut}
use Rattle.rtcm2.proofs.BeaconLaws.{kept-refused, kept-as}
use Rattle.rtcm2.proofs.beacon.keep_cut.Goals as goal

pub keep_all-requires : goal.keep_all-requires
keep_all-requires c =
    c.requires _ (sym c.in-Frames.is)

pub returns-in-Frames : goal.returns-in-Frames
returns-in-Frames c =
    let a = c.args in
    let said = kept-as a.frames.now a.length.now (says-cut a.cut (sym c.in-Frames.is)) (c.keep_all.ensures.value, (c.keep_all.ensures.frames_after, c.keep_all.ensures.length_after)) in
    record { value = said.0; frames_after = said.1.0; length_after = said.1.1 }

pub returns-in-Refused : goal.returns-in-Refused
returns-in-Refused c =
    let a = c.args in
    let said = kept-refused a.frames.now a.length.now (says-uncut a.cut (sym c.in-Refused.is)) in
    record { value = said.0; frames_after = said.1.0; length_after = said.1.1 }
