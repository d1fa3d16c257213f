-- THE SMALL-BEACON PROFILE (request 111): which frames its checker accepts, and what its sender makes of a list. What it says of frames is said over
-- the layouts' own definitions, not over their readers. Assumes nothing.
use Rattle.std.specs.Prelude.{◌≡◌, List, ℕ, ◌≤◌, length, take}
use Rattle.frame.specs.declared.Frame.{Frame}
use Rattle.frame.specs.declared.Header.{Header}
use Rattle.record_fields.specs.Coding.{Each}
use Rattle.record_corrections.specs.declared.Correction.{Correction}
use Rattle.record_corrections.specs.Corrections.{Typed}
use Rattle.profile.specs.declared.Profile.TheVariants.{Inside}
use Rattle.profile.specs.Profile.{check_profile, InProfile}
use Rattle.profile.specs.Cutting.{done_cut, cut_corrections, Cuttable, IsCut}

pub record SmallBeacon : Type 0 where
  -- EXACTLY: every frame of the profile is accepted, and no other frame
  pub accepted : (f : Frame) → InProfile f → check_profile f ≡ Inside
  pub only : (f : Frame) → check_profile f ≡ Inside → InProfile f
  -- CUT: what can be cut is cut, not refused: a third of the list, rounded up, of frames of the profile, under rising headers, three corrections in
  -- each but the last; read one after the other they give the list. `Typed` is what the types of the fields say
  pub cut : (h : Header) (es : List Correction) (c : ℕ) (d : Correction) → Each Typed (take c es) → Cuttable h es c d
      → IsCut (cut_corrections h es c) h (take c es)
  -- and nothing else is cut
  pub cut-only : (h : Header) (es : List Correction) (c : ℕ) (d : Correction) (fs : List Frame) → c ≤ length es
      → cut_corrections h es c ≡ done_cut fs → Cuttable h es c d
