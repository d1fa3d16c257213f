-- What the functions between the readers and the two calls answer: private, by the layouts' own answers. Assumes nothing.
use Rattle.std.specs.Prelude.{List, [], ◌∷◌, ℕ, ltb, length, take, replicate}
use Rattle.answer.specs.Order.{Says, refuses, answers, in_order}
use Rattle.frame.specs.declared.Frame.{Frame}
use Rattle.frame.specs.declared.Header.{Header}
use Rattle.record_stages.specs.declared.Count.{Count}
use Rattle.record_stages.specs.declared.Count.TheVariants as count
use Rattle.record_stages.specs.Stages.{says_count}
use Rattle.record_corrections.specs.declared.Correction.{Correction}
use Rattle.record_corrections.specs.declared.CorrectionRead.{CorrectionRead}
use Rattle.record_corrections.specs.declared.CorrectionRead.TheVariants as read
use Rattle.record_corrections.specs.Corrections.{count_corrections, correction_at, make_corrections}
use Rattle.record_texts.specs.Texts.{read_text}
use Rattle.profile.specs.declared.Profile.{Profile}
use Rattle.profile.specs.declared.Profile.TheVariants.{Inside, Refused}
use Rattle.profile.specs.Profile.{repeated, most_satellites}
use Rattle.profile.specs.Cutting.{rising, part}

-- what is left of a reader's answer
abbrev pub settled : {A : Type 0} → Says A → Profile
settled (answers a) = Inside
settled (refuses n) = Refused n

-- type 16, with a buffer of 90
abbrev pub text_profile : Frame → Profile
text_profile f = settled (says_count (read_text f (replicate 90 0)))

-- the satellite of what is read, or none
abbrev pub satellite_read : CorrectionRead → ℕ
satellite_read (read.Entry e) = e.satellite
satellite_read (read.Refused n) = 0

-- 21, 22 of so many corrections of a frame
unfoldable pub few_profile : Frame → ℕ → Profile
few_profile f c =
    in_order
    ((ltb most_satellites c, 21)
    ∷ (repeated (take c (satellite_read (correction_at f 0) ∷ satellite_read (correction_at f 1) ∷ satellite_read (correction_at f 2) ∷ [])), 22)
    ∷ []) Refused Inside

-- type 9
abbrev pub counted_profile : Frame → Count → Profile
counted_profile f (count.Of c) = few_profile f c
counted_profile f (count.Refused n) = Refused n

abbrev pub corrections_profile : Frame → Profile
corrections_profile f = counted_profile f (count_corrections f)

-- frame number i as it is made
unfoldable pub made_part : Header → List Correction → ℕ → Frame
made_part h es i = (make_corrections (rising h i) (part es i) (length (part es i))).frame
