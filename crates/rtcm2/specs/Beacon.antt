-- The small-beacon profile: what checking and cutting say, and the records of frames one after the other. Assumes nothing.
use Rattle.std.specs.Prelude.{◌≡◌, false, List, [], ◌∷◌, ◌++◌, ℕ, ◌≤◌, ltb, length, take, drop}
use Rattle.answer.specs.Order.{Says, refuses, answers, in_order}
use Rattle.frame.specs.Widths.{outside}
use Rattle.frame.specs.declared.Frame.{Frame}
use Rattle.frame.specs.declared.Header.{Header}
use Rattle.frame.specs.declared.System.TheVariants.{Gps}
use Rattle.journal.specs.Journal.{record_of}
use Rattle.record_fields.specs.Coding.{Each}
use Rattle.profile.specs.Profile.{check_profile, says_profile}
use Rattle.profile.specs.Cutting.{cut_corrections, says_cut}
use Rattle.profile.specs.declared.Cut.{Cut}
use Rattle.profile.specs.declared.Cutting.TheVariants as cutting
use Rattle.rtcm2_rows.specs.Rows.{row_size, count_of, entries_from}
use Rattle.rtcm2_rows.specs.Corrections.{row}
use Rattle.rtcm2.specs.Answer.{left, and_then}

-- CHECKING: the refusal that there was, or 7, 20, 8, 10 or 11, 21, 22
abbrev pub profile_said : Says Frame → Says (Unit {0})
profile_said said = and_then said (λ f. says_profile (check_profile f))

-- CUTTING: the refusal that there was, or 5, 6, 7, 12, 10, 22; as many rows as the bytes are and at most 18
abbrev pub cut_said : Says Header → List ℕ → Says (List Frame)
cut_said said bytes =
    and_then said (λ h. says_cut (cut_corrections h (entries_from (row Gps) 18 bytes) (count_of (row_size (row Gps)) (length bytes))))

-- THE RECORDS of frames, one after the other
abbrev pub records_of : List Frame → List ℕ
records_of [] = []
records_of (f ∷ fs) = record_of f ++ records_of fs

-- KEPT: the refusal that there was, or the length of all records; 13 where the bytes are too few for them
abbrev pub kept_all : Says (List Frame) → List ℕ → Says ℕ
kept_all said buffer =
    and_then said (λ fs. in_order ((ltb (length buffer) (length (records_of fs)), 13) ∷ []) refuses (answers (length (records_of fs))))

-- what the bytes then hold: the records and past them what they held, or on a refusal what they held
abbrev pub held_all : Says (List Frame) → List ℕ → List ℕ
held_all said buffer =
    left said
    (λ fs. in_order ((ltb (length buffer) (length (records_of fs)), 13) ∷ []) (λ n. buffer) (records_of fs ++ drop (length (records_of fs)) buffer)) buffer

-- the length that is left: that of all records, or on a refusal what it was
abbrev pub size_all : Says (List Frame) → List ℕ → ℕ → ℕ
size_all said buffer size = left (kept_all said buffer) (λ k. k) size

-- a frame whose record can be kept
abbrev pub Storable : Frame → Type 0
Storable f = (outside f ≡ false) × (length f.words ≡ 31)

-- what was cut can be kept: at most six frames, each with a record
abbrev pub CutStorable : Cut → Type 0
CutStorable u = (n : ℕ) → cutting.Frames n ≡ u.answer → (n ≤ 6) × Each Storable (take n u.frames)
