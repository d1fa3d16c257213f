-- The small-beacon profile: the answer of its checker, in its order, and the frames that are in it. Assumes nothing.
use Rattle.std.specs.Prelude.{◌≡◌, Bool, false, not, ◌||◌, ◌&&◌, cond, List, [], ◌∷◌, ℕ, zero, suc, ◌≤◌, ◌<◌, ltb, eqb}
use Rattle.answer.specs.Order.{Says, refuses, answers, Check, in_order}
use Rattle.frame.specs.Widths.{any_of, outside, late}
use Rattle.frame.specs.declared.Frame.{Frame}
use Rattle.frame.specs.declared.System.TheVariants.{Gps}
use Rattle.record_fields.specs.Coding.{frame_bits, entry_in}
use Rattle.record_stages.specs.Stages.{entries_held, misfit, wrong_size}
use Rattle.record_corrections.specs.Corrections.{coding, HoldsCorrections}
use Rattle.record_healths.specs.Healths.{HoldsHealths}
use Rattle.record_positions.specs.Positions.{out_of_range, position_in, HoldsPosition}
use Rattle.record_nulls.specs.Nulls.{too_many, HoldsNull}
use Rattle.record_texts.specs.Texts.{wrong_words, forbidden, text_in, HoldsText}
use Rattle.profile.specs.declared.Profile.{Profile}
use Rattle.profile.specs.declared.Profile.TheVariants.{Inside, Refused}

-- THE TYPES of the profile
abbrev pub types : List ℕ
types = 3 ∷ 5 ∷ 6 ∷ 9 ∷ 16 ∷ []

-- THE MOST SATELLITES of a frame of type 9
abbrev pub most_satellites : ℕ
most_satellites = 3

-- what g says of n numbers, from i on
abbrev pub listed : {A : Type 0} → (ℕ → A) → ℕ → ℕ → List A
listed g zero i = []
listed g (suc n) i = g i ∷ listed g n (suc i)

-- the satellite of correction number i of a frame of type 9; how many it has; all of them
abbrev pub satellite_number : Frame → ℕ → ℕ
satellite_number f i = (entry_in (coding Gps) i (frame_bits f)).satellite

abbrev pub satellite_count : Frame → ℕ
satellite_count f = entries_held 40 f.n

abbrev pub satellites_in : Frame → List ℕ
satellites_in f = listed (satellite_number f) (satellite_count f) 0

-- one number of a list stands in it again
unfoldable pub repeated : List ℕ → Bool
repeated [] = false
repeated (x ∷ xs) = any_of (eqb x) xs || repeated xs

-- ---- the order, over the type; some checks are asked of one type alone

abbrev pub only : ℕ → ℕ → Bool → Bool
only kind wanted wrong = eqb kind wanted && wrong

-- 8: N doesn't fit a type of the profile
abbrev pub wrong_n : ℕ → ℕ → Bool
wrong_n kind n =
    cond (eqb kind 3) (wrong_size 4 n)
    (cond (eqb kind 5) (misfit 24 n) (cond (eqb kind 6) (too_many n) (cond (eqb kind 9) (misfit 40 n) (wrong_words n))))

-- after 5 and 7: 20, 8, 10 or 11, 21, 22
abbrev pub type_order : ℕ → Frame → List Check
type_order kind f =
    (not (any_of (eqb kind) types), 20)
    ∷ (wrong_n kind f.n, 8)
    ∷ (only kind 3 (out_of_range (position_in f)), 10)
    ∷ (only kind 16 (any_of (forbidden Gps) (text_in f)), 11)
    ∷ (only kind 9 (ltb most_satellites (satellite_count f)), 21)
    ∷ (only kind 9 (repeated (satellites_in f)), 22)
    ∷ []

-- CHECKING: 5, 7, 20, 8, 10 or 11, 21, 22
abbrev pub profile_order : Frame → List Check
profile_order f = (outside f, 5) ∷ (late f.header.z, 7) ∷ type_order f.header.kind f

unfoldable pub check_profile : Frame → Profile
check_profile f = in_order (profile_order f) Refused Inside

-- in the table's terms
abbrev pub says_profile : Profile → Says (Unit {0})
says_profile Inside = answers tt
says_profile (Refused n) = refuses n

-- ---- A FRAME OF THE PROFILE, by its type: it holds the record of its layout; of type 9 it has at most three satellites, none twice

pub record FewSatellites (f : Frame) (c : ℕ) : Type 0 where
  pub holds : HoldsCorrections f c
  pub few : c ≤ most_satellites
  pub apart : (i j : ℕ) → i < j → j < c → satellite_number f i ≡ satellite_number f j → ⊥

pub data InProfile (f : Frame) : Type 0 where
  in-position : f.header.kind ≡ 3 → HoldsPosition f → InProfile f
  in-healths : f.header.kind ≡ 5 → (c : ℕ) → HoldsHealths f c → InProfile f
  in-null : f.header.kind ≡ 6 → HoldsNull f → InProfile f
  in-corrections : f.header.kind ≡ 9 → (c : ℕ) → FewSatellites f c → InProfile f
  in-text : f.header.kind ≡ 16 → (t : List ℕ) (k : ℕ) → HoldsText f t k → InProfile f
