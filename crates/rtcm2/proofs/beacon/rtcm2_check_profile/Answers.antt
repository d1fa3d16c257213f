-- `rtcm2_check_profile` meets its contract: the record's refusal, or what the checker says of its frame. Assumes nothing.
use mathlib.Core.Path.{◌≡◌, sym, ap, ◌∙◌}
use Rattle.profile.specs.Profile.{says_profile}
use Rattle.profile.specs.declared.Profile.{Profile}
use Rattle.rtcm2.specs.Answer.{number_of}
use Rattle.rtcm2.specs.Frames.{frame_said}
use Rattle.rtcm2.specs.Beacon.{profile_said}
use Rattle.rtcm2.proofs.RecallLaws.{frame-told, frame_refused}
use Rattle.rtcm2.proofs.beacon.rtcm2_check_profile.Goals as goal

pub returns-in-Inside : goal.returns-in-Inside
returns-in-Inside c =
    let checked : (x : Profile) → c.check_profile.result ≡ x
    → says_profile x ≡ profile_said (frame_said c.args.frame.now) = λ x e. ap says_profile (sym e ∙ c.check_profile.ensures)
    ∙ ap profile_said (frame-told c.args.frame.now c.recall-recalled.result c.recall-recalled.ensures (sym c.in-Record.is)) in
    ap number_of (checked _ c.in-Inside.is)

pub returns-in-Refused-check_profile : goal.returns-in-Refused-check_profile
returns-in-Refused-check_profile c =
    let checked : (x : Profile) → c.check_profile.result ≡ x
    → says_profile x ≡ profile_said (frame_said c.args.frame.now) = λ x e. ap says_profile (sym e ∙ c.check_profile.ensures)
    ∙ ap profile_said (frame-told c.args.frame.now c.recall-recalled.result c.recall-recalled.ensures (sym c.in-Record.is)) in
    ap number_of (checked _ c.in-Refused-check_profile.is)

pub returns-in-Refused : goal.returns-in-Refused
returns-in-Refused c =
    let a = c.args in
    ap (λ s. number_of (profile_said s)) (frame_refused a.frame.now c.recall-recalled.result c.recall-recalled.ensures (sym c.in-Refused.is))
