-- The checker accepts exactly the frames of the profile. Assumes nothing.
use mathlib.Core.Path.{◌≡◌, refl, sym, ap, ◌∙◌}
use mathlib.Core.Bool.{Bool, true, false, true≢false}
use mathlib.Core.Logic.{◌↔◌}
use mathlib.Core.List.{List, [], ◌∷◌}
use Prim.Native.Nat.{ℕ, ◌*◌, ◌≤◌, ◌<◌}
use native.Mathlib.Omega.{arith}
use lib.Dec.{ltb, eqb}
use lib.ListN.{length, take, get_or, replicate, length-append}
use borrow.Author.Tests.{lt-leb, le-ltb, ltb-false, eq-eqb, eqb-true}
use Rattle.answer.specs.Order.{Check, NoneApplies}
use Rattle.answer.proofs.OrderLaws.{order-told}
use Rattle.frame.specs.Widths.{outside, late}
use Rattle.frame.specs.declared.Frame.{Frame}
use Rattle.frame.specs.declared.Layout.{Layout}
use Rattle.record_fields.specs.Coding.{frame_bits}
use Rattle.record_stages.specs.declared.Count.{Count}
use Rattle.record_stages.specs.declared.Count.TheVariants as count
use Rattle.record_stages.specs.Stages.{FrameFor, says_count}
use Rattle.record_corrections.specs.Corrections.{correction_layout, count_corrections, correction_at, HoldsCorrections}
use Rattle.record_healths.specs.Healths.{health_layout, count_healths, HoldsHealths}
use Rattle.record_nulls.specs.declared.NullRead.{NullRead}
use Rattle.record_nulls.specs.declared.NullRead.TheVariants as null
use Rattle.record_nulls.specs.Nulls.{read_null, says_null_read}
use Rattle.record_positions.specs.declared.PositionRead.{PositionRead}
use Rattle.record_positions.specs.declared.PositionRead.TheVariants as position
use Rattle.record_positions.specs.Positions.{read_position, says_position_read}
use Rattle.record_texts.specs.Texts.{read_text, HoldsText}
use Rattle.record_laws.proofs.PlainLists.{lists-read, lists-held}
use Rattle.record_laws.proofs.CorrectionTrips.{corrections-owed}
use Rattle.record_laws.proofs.HealthTrips.{healths-owed}
use Rattle.record_laws.proofs.NullTrips.{null-read, null-held}
use Rattle.record_laws.proofs.PositionTrips.{position-read, position-held}
use Rattle.record_laws.proofs.TextHeld.{text-read, text-held}
use Rattle.record_texts.proofs.TextCode.{length-characters}
use Rattle.profile.specs.declared.Profile.TheVariants.{Inside, Refused}
use Rattle.profile.specs.Profile.{listed, satellite_number, repeated, profile_order, check_profile, FewSatellites}
use Rattle.profile.specs.Profile.{InProfile, in-position, in-healths, in-null, in-corrections, in-text}
use Rattle.profile.specs.Arms.{settled, satellite_read, few_profile, counted_profile}
use Rattle.profile.proofs.Twice.{apart-told, apart-fine}
use Rattle.profile.proofs.Parts.{length-listed, listed_at}
use Rattle.profile.proofs.ArmLaws.{by-position, by-healths, by-null, by-corrections, by-text, other-type, three-read}

apart : (n : ℕ) → Refused n ≡ Inside → ⊥
apart n e = let z : ◌≡◌ {A = ℕ} 0 1 = cc in omega arith

-- 5 and 7 of a frame that is for a layout
hour-of : {l : Layout} (f : Frame) → FrameFor l f → late f.header.z ≡ false
hour-of f k = lt-leb 6000 f.header.z k.hour

-- ---- which frames a count is read of

corrections-counted : (f : Frame) (c : ℕ) → (count_corrections f ≡ count.Of c) ↔ HoldsCorrections f c
unfolding count_corrections
corrections-counted f c = (lists-held correction_layout corrections-owed f c, λ k. (lists-read correction_layout corrections-owed f c k).counts)

healths-counted : (f : Frame) (c : ℕ) → (count_healths f ≡ count.Of c) ↔ HoldsHealths f c
unfolding count_healths
healths-counted f c = (lists-held health_layout healths-owed f c, λ k. (lists-read health_layout healths-owed f c k).counts)

-- ---- 21 and 22 of a frame that holds corrections, both ways

module _ (f : Frame) (c : ℕ) where
  abbrev order : List Check
  order =
      (ltb 3 c, 21)
      ∷ (repeated (take c (satellite_read (correction_at f 0) ∷ satellite_read (correction_at f 1) ∷ satellite_read (correction_at f 2) ∷ [])), 22)
      ∷ []

  at : (i : ℕ) → i < c → get_or (listed (satellite_number f) c 0) i 0 ≡ satellite_number f i
  at i l = listed_at (satellite_number f) c i 0 l

  long : length (listed (satellite_number f) c 0) ≡ c
  long = length-listed (satellite_number f) c 0

  few-inside : outside f ≡ false → late f.header.z ≡ false → f.header.kind ≡ 9 → FewSatellites f c → few_profile f c ≡ Inside
  unfolding few_profile
  few-inside w z e k =
      rw (
        le-ltb 3 c k.few,
        ap repeated (three-read f w z e c k.holds k.few)
            ∙ apart-fine (listed (satellite_number f) c 0)
            (λ i j l m q. k.apart i j l (omega (arith, long)) (sym (at i (omega (arith, long))) ∙ q ∙ at j (omega (arith, long)))),
      )

  few-told : outside f ≡ false → late f.header.z ≡ false → f.header.kind ≡ 9 → HoldsCorrections f c → few_profile f c ≡ Inside → FewSatellites f c
  unfolding few_profile
  few-told w z e k q =
      let t = (order-told Refused Inside Inside apart order q).0 in
      let few = ltb-false 3 c t.0 in
      record {
        holds = k;
        few = few;
        apart = λ i j l m s.
            apart-told (listed (satellite_number f) c 0) (ap repeated (sym (three-read f w z e c k few)) ∙ t.1.0) i j l (omega (arith, long))
            (at i (omega arith) ∙ s ∙ sym (at j m));
      }

-- a text has at most 90 characters
text-short : (f : Frame) (t : List ℕ) (k : ℕ) → HoldsText f t k → length t ≤ 90
text-short f t k s =
    omega (
      arith,
      s.few,
      sym (length-characters (3 * f.n) (frame_bits f)) ∙ ap length s.says ∙ length-append t (replicate k 0),
    )

-- ---- ACCEPTED: every frame of the profile

pub accepted : (f : Frame) → InProfile f → check_profile f ≡ Inside
accepted f (in-position e k) =
    sym (by-position f k.frame.inside (hour-of f k.frame) e) ∙ ap (λ r. settled (says_position_read r)) (position-read f k)
accepted f (in-healths e c k) =
    sym (by-healths f k.frame.inside (hour-of f k.frame) e) ∙ ap (λ r. settled (says_count r)) ((healths-counted f c).1 k)
accepted f (in-null e k) =
    sym (by-null f k.frame.inside (hour-of f k.frame) e) ∙ ap (λ r. settled (says_null_read r)) (null-read f k)
accepted f (in-corrections e c k) =
    let w = k.holds.frame.inside in
    let z = hour-of f k.holds.frame in
    sym (by-corrections f w z e) ∙ ap (counted_profile f) ((corrections-counted f c).1 k.holds) ∙ few-inside f c w z e k
accepted f (in-text e t k s) =
    sym (by-text f s.frame.inside (hour-of f s.frame) e)
    ∙ ap (λ r. settled (says_count r)) ((text-read f t k s).reads (replicate 90 0) (text-short f t k s))

-- ---- AND NO OTHER

module _ (f : Frame) (q : check_profile f ≡ Inside) where
  none : NoneApplies (profile_order f)
  unfolding check_profile
  none = (order-told Refused Inside Inside apart (profile_order f) q).0

  w : outside f ≡ false
  w = none.0

  z : late f.header.z ≡ false
  z = none.1.0

  is-position : f.header.kind ≡ 3 → InProfile f
  is-position e = go (read_position f) refl
    where
      go : (r : PositionRead) → read_position f ≡ r → InProfile f
      go (position.At p) s = in-position e (position-held f p s)
      go (position.Refused n) s = absurd (apart n (sym (ap (λ r. settled (says_position_read r)) s) ∙ by-position f w z e ∙ q))

  is-healths : f.header.kind ≡ 5 → InProfile f
  is-healths e = go (count_healths f) refl
    where
      go : (r : Count) → count_healths f ≡ r → InProfile f
      go (count.Of c) s = in-healths e c ((healths-counted f c).0 s)
      go (count.Refused n) s = absurd (apart n (sym (ap (λ r. settled (says_count r)) s) ∙ by-healths f w z e ∙ q))

  is-null : f.header.kind ≡ 6 → InProfile f
  is-null e = go (read_null f) refl
    where
      go : (r : NullRead) → read_null f ≡ r → InProfile f
      go (null.Null n) s = in-null e (null-held f n s)
      go (null.Refused n) s = absurd (apart n (sym (ap (λ r. settled (says_null_read r)) s) ∙ by-null f w z e ∙ q))

  is-corrections : f.header.kind ≡ 9 → InProfile f
  is-corrections e = go (count_corrections f) refl
    where
      go : (r : Count) → count_corrections f ≡ r → InProfile f
      go (count.Of c) s =
          in-corrections e c (few-told f c w z e ((corrections-counted f c).0 s) (sym (ap (counted_profile f) s) ∙ by-corrections f w z e ∙ q))
      go (count.Refused n) s = absurd (apart n (sym (ap (counted_profile f) s) ∙ by-corrections f w z e ∙ q))

  is-text : f.header.kind ≡ 16 → InProfile f
  is-text e = go (read_text f (replicate 90 0)) refl
    where
      go : (r : Count) → read_text f (replicate 90 0) ≡ r → InProfile f
      go (count.Of c) s = let t = (text-held f (replicate 90 0) c s).0 in in-text e _ t.0 t.1
      go (count.Refused n) s = absurd (apart n (sym (ap (λ r. settled (says_count r)) s) ∙ by-text f w z e ∙ q))

  pub only-these : InProfile f
  only-these =
      by-type (eqb f.header.kind 3) (eqb f.header.kind 5) (eqb f.header.kind 6) (eqb f.header.kind 9) (eqb f.header.kind 16)
      refl refl refl refl refl
    where
      no : (k : ℕ) → eqb f.header.kind k ≡ false → f.header.kind ≡ k → ⊥
      no k s e = true≢false (sym (eq-eqb f.header.kind k e) ∙ s)

      by-type : (a b c d e : Bool) → eqb f.header.kind 3 ≡ a → eqb f.header.kind 5 ≡ b → eqb f.header.kind 6 ≡ c → eqb f.header.kind 9 ≡ d
          → eqb f.header.kind 16 ≡ e → InProfile f
      by-type true b c d e s t u v x = is-position (eqb-true f.header.kind 3 s)
      by-type false true c d e s t u v x = is-healths (eqb-true f.header.kind 5 t)
      by-type false false true d e s t u v x = is-null (eqb-true f.header.kind 6 u)
      by-type false false false true e s t u v x = is-corrections (eqb-true f.header.kind 9 v)
      by-type false false false false true s t u v x = is-text (eqb-true f.header.kind 16 x)
      by-type false false false false false s t u v x =
          absurd (apart 20 (other-type f w z (no 3 s) (no 5 t) (no 6 u) (no 9 v) (no 16 x) ∙ q))
