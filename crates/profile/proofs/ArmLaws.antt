-- What the profile asks of each of its types is what their readers say: once 5 and 7 are passed, the rest of the order is the reader's own
-- with 21 and 22 behind it. Assumes nothing.
use mathlib.Core.Path.{◌≡◌, refl, sym, ap, ap₂, ◌∙◌}
use mathlib.Core.Bool.{Bool, true, false, cond}
use mathlib.Core.List.{List, [], ◌∷◌}
use Prim.Native.Nat.{ℕ, zero, suc, ◌*◌, ◌≤◌, ◌<◌}
use native.Mathlib.Omega.{arith}
use lib.Dec.{ltb}
use lib.ListN.{take}
use borrow.Author.Tests.{lt-ltb, le-ltb, ltb-false, ne_eqb}
use Rattle.answer.specs.Order.{Check, in_order}
use Rattle.answer.proofs.OrderLaws.{order-map}
use Rattle.frame.specs.Widths.{any_of, outside, late}
use Rattle.frame.specs.Layout.{layout_of, system_of}
use Rattle.frame.specs.declared.Frame.{Frame}
use Rattle.frame.specs.declared.Layout.{Layout}
use Rattle.frame.specs.declared.Layout.TheVariants as layout
use Rattle.frame.specs.declared.System.{System}
use Rattle.frame.specs.declared.System.TheVariants.{Gps}
use Rattle.record_fields.specs.Coding.{frame_bits, entry_in}
use Rattle.record_stages.specs.declared.Count.TheVariants as count
use Rattle.record_stages.specs.Stages.{other_layout, entries_held, misfit, wrong_size, read_order, says_count}
use Rattle.record_stages.proofs.ListCode.{told-some-few}
use Rattle.record_corrections.specs.declared.CorrectionRead.{CorrectionRead}
use Rattle.record_corrections.specs.declared.CorrectionRead.TheVariants as correction
use Rattle.record_corrections.specs.Issues.{issue_of, late_tb}
use Rattle.record_corrections.specs.Corrections.{coding, correction_layout, count_corrections, correction_at, HoldsCorrections}
use Rattle.record_healths.specs.Healths.{count_healths}
use Rattle.record_nulls.specs.Nulls.{too_many, read_null, says_null_read}
use Rattle.record_nulls.specs.declared.NullRead.TheVariants as null
use Rattle.record_positions.specs.Positions.{position_in, read_position, says_position_read}
use Rattle.record_positions.specs.Positions.{out_of_range as far_out}
use Rattle.record_positions.specs.declared.PositionRead.TheVariants as position
use Rattle.record_texts.specs.Texts.{wrong_words, forbidden, text_in, length_in, read_text}
use Rattle.record_laws.proofs.PlainLists.{lists-read, lists-held}
use Rattle.record_laws.proofs.CorrectionTrips.{corrections-owed}
use Rattle.record_laws.proofs.TextHeld.{closing}
use Rattle.profile.specs.declared.Profile.TheVariants.{Inside, Refused}
use Rattle.profile.specs.Profile.{listed, satellite_number, satellite_count, satellites_in, repeated, type_order, check_profile}
use Rattle.profile.specs.Arms.{settled, text_profile, satellite_read, few_profile, counted_profile, corrections_profile}

-- ---- 5 and 7

pub check5 : (f : Frame) → outside f ≡ true → Refused 5 ≡ check_profile f
unfolding check_profile
check5 f e = rw e

pub check7 : (f : Frame) → outside f ≡ false → late f.header.z ≡ true → Refused 7 ≡ check_profile f
unfolding check_profile
check7 f w e = rw (w, e)

-- ---- 21 and 22, by the three satellites that are read

pub few-many : (f : Frame) (c : ℕ) → 3 < c → Refused 21 ≡ few_profile f c
unfolding few_profile
few-many f c l = rw (lt-ltb 3 c l)

pub few-by : (f : Frame) (c s t u : ℕ) → c ≤ 3 → s ≡ satellite_read (correction_at f 0) → t ≡ satellite_read (correction_at f 1)
    → u ≡ satellite_read (correction_at f 2) → (b : Bool) → b ≡ repeated (take c (s ∷ t ∷ u ∷ []))
    → in_order ((b, 22) ∷ []) Refused Inside ≡ few_profile f c
unfolding few_profile
few-by f c s t u l is it iu b e =
    rw (le-ltb 3 c l)
    (ap (λ x. in_order ((x, 22) ∷ []) Refused Inside)
    (e ∙ ap₂ (λ x y. repeated (take c (x ∷ y ∷ u ∷ []))) is it
    ∙ ap (λ y. repeated (take c (satellite_read (correction_at f 0) ∷ satellite_read (correction_at f 1) ∷ y ∷ []))) iu))

module _ (f : Frame) (within : outside f ≡ false) (hour : late f.header.z ≡ false) where
  -- past 5 and 7, over the type
  passed : (kind : ℕ) → f.header.kind ≡ kind → check_profile f ≡ in_order (type_order kind f) Refused Inside
  unfolding check_profile
  passed kind e = rw (within, hour) (ap (λ k. in_order (type_order k f) Refused Inside) e)

  -- a reader past 5, 6 and 7
  reader : {A : Type 0} (l : Layout) (wrong_n : Bool) (more : List Check) (refuse : ℕ → A) (answer : A) → other_layout l f.header.kind ≡ false
      → in_order (read_order l f wrong_n more) refuse answer ≡ in_order ((wrong_n, 8) ∷ more) refuse answer
  reader l wrong_n more refuse answer same = rw (within, same, hour)

  pub by-position : f.header.kind ≡ 3 → settled (says_position_read (read_position f)) ≡ check_profile f
  unfolding read_position other_layout layout_of
  by-position e =
      ap (λ r. settled (says_position_read r))
      (reader layout.Position (wrong_size 4 f.n) ((far_out (position_in f), 10) ∷ []) position.Refused (position.At (position_in f))
      (ap (other_layout layout.Position) e))
      ∙ order-map (λ r. settled (says_position_read r)) ((wrong_size 4 f.n, 8) ∷ (far_out (position_in f), 10) ∷ []) position.Refused (position.At (position_in f))
      ∙ sym (passed 3 e)

  pub by-healths : f.header.kind ≡ 5 → settled (says_count (count_healths f)) ≡ check_profile f
  unfolding count_healths other_layout layout_of
  by-healths e =
      ap (λ r. settled (says_count r))
      (reader layout.Health (misfit 24 f.n) [] count.Refused (count.Of (entries_held 24 f.n)) (ap (other_layout layout.Health) e))
      ∙ order-map (λ r. settled (says_count r)) ((misfit 24 f.n, 8) ∷ []) count.Refused (count.Of (entries_held 24 f.n))
      ∙ sym (passed 5 e)

  pub by-null : f.header.kind ≡ 6 → settled (says_null_read (read_null f)) ≡ check_profile f
  unfolding read_null other_layout layout_of
  by-null e =
      ap (λ r. settled (says_null_read r))
      (reader layout.Null (too_many f.n) [] null.Refused (null.Null f.n) (ap (other_layout layout.Null) e))
      ∙ order-map (λ r. settled (says_null_read r)) ((too_many f.n, 8) ∷ []) null.Refused (null.Null f.n)
      ∙ sym (passed 6 e)

  -- a buffer of 90 has room for every text
  pub by-text : f.header.kind ≡ 16 → text_profile f ≡ check_profile f
  unfolding read_text other_layout layout_of system_of
  by-text e =
      ap (λ r. settled (says_count r))
      (reader layout.Text (wrong_words f.n) (last (system_of f.header.kind)) count.Refused (count.Of (length_in f)) (ap (other_layout layout.Text) e))
      ∙ order-map (λ r. settled (says_count r)) ((wrong_words f.n, 8) ∷ last (system_of f.header.kind)) count.Refused (count.Of (length_in f))
      ∙ ap (λ s. in_order ((wrong_words f.n, 8) ∷ last s) Refused Inside) (ap system_of e)
      ∙ room (wrong_words f.n) refl
      ∙ sym (passed 16 e)
    where
      last : System → List Check
      last s = (any_of (forbidden s) (text_in f), 11) ∷ (ltb 90 (length_in f), 13) ∷ []

      eleven : List Check
      eleven = (any_of (forbidden Gps) (text_in f), 11) ∷ []

      short : wrong_words f.n ≡ false → length_in f ≤ 90
      short w = let n = told-some-few f.n 30 w in let z = closing (3 * f.n) (frame_bits f) (omega (arith, n)) in omega (arith, n, z.size)

      room : (b : Bool) → wrong_words f.n ≡ b
          → in_order ((b, 8) ∷ last Gps) Refused Inside ≡ in_order ((b, 8) ∷ eleven) Refused Inside
      room true w = refl
      room false w = rw (le-ltb 90 (length_in f) (short w))

  -- ---- type 9: every entry below the count is read, and says its satellite

  module _ (e : f.header.kind ≡ 9) where
    -- or 10 where its tb is late, of which GPS has none
    abbrev read_by : System → ℕ → CorrectionRead
    read_by s i = let x = entry_in (coding s) i (frame_bits f) in cond (late_tb x.issue) (correction.Refused 10) (correction.Entry x)

    entry_read_lem : (c : ℕ) → HoldsCorrections f c → (i : ℕ) → i < c → correction_at f i ≡ read_by (system_of f.header.kind) i
    unfolding correction_at
    entry_read_lem c k i l = (lists-read correction_layout corrections-owed f c k).entries i l

    pub satellite-read : (c : ℕ) → HoldsCorrections f c → (i : ℕ) → i < c → satellite_read (correction_at f i) ≡ satellite_number f i
    unfolding system_of issue_of
    satellite-read c k i l = ap satellite_read (entry_read_lem c k i l ∙ ap (λ s. read_by s i) (ap system_of e))

    pub three-read : (c : ℕ) → HoldsCorrections f c → c ≤ 3
        → take c (satellite_read (correction_at f 0) ∷ satellite_read (correction_at f 1) ∷ satellite_read (correction_at f 2) ∷ []) ≡ listed (satellite_number f) c 0
    three-read c k l = go c l (satellite-read c k)
      where
        go : (c : ℕ) → c ≤ 3 → ((i : ℕ) → i < c → satellite_read (correction_at f i) ≡ satellite_number f i)
            → take c (satellite_read (correction_at f 0) ∷ satellite_read (correction_at f 1) ∷ satellite_read (correction_at f 2) ∷ [])
            ≡ listed (satellite_number f) c 0
        go zero l at = refl
        go (suc zero) l at = rw (at 0 (omega arith))
        go (suc (suc zero)) l at = rw (at 0 (omega arith), at 1 (omega arith))
        go (suc (suc (suc zero))) l at = rw (at 0 (omega arith), at 1 (omega arith), at 2 (omega arith))
        go (suc (suc (suc (suc c)))) l at = absurd (omega arith)

    -- past 8
    counted : count_corrections f ≡ in_order ((misfit 40 f.n, 8) ∷ []) count.Refused (count.Of (satellite_count f))
    unfolding count_corrections other_layout layout_of
    counted =
        reader layout.Correction (misfit 40 f.n) [] count.Refused (count.Of (satellite_count f)) (ap (other_layout layout.Correction) e)

    pub by-corrections : corrections_profile f ≡ check_profile f
    unfolding few_profile
    by-corrections = go (misfit 40 f.n) refl ∙ sym (passed 9 e)
      where
        rest : List Check
        rest = (ltb 3 (satellite_count f), 21) ∷ (repeated (satellites_in f), 22) ∷ []

        of : (b : Bool) → misfit 40 f.n ≡ b → count_corrections f ≡ in_order ((b, 8) ∷ []) count.Refused (count.Of (satellite_count f))
        of b w = counted ∙ ap (λ x. in_order ((x, 8) ∷ []) count.Refused (count.Of (satellite_count f))) w

        holds : count_corrections f ≡ count.Of (satellite_count f) → HoldsCorrections f (satellite_count f)
        holds = unfold count_corrections in lists-held correction_layout corrections-owed f (satellite_count f)

        few : (b : Bool) → ltb 3 (satellite_count f) ≡ b → HoldsCorrections f (satellite_count f)
            → few_profile f (satellite_count f) ≡ in_order ((b, 21) ∷ (repeated (satellites_in f), 22) ∷ []) Refused Inside
        few true q k = rw q
        few false q k = rw (q, three-read (satellite_count f) k (ltb-false 3 (satellite_count f) q))

        go : (b : Bool) → misfit 40 f.n ≡ b → corrections_profile f ≡ in_order ((misfit 40 f.n, 8) ∷ rest) Refused Inside
        go true w = ap (counted_profile f) (of true w) ∙ rw w
        go false w =
            ap (counted_profile f) (of false w) ∙ few (ltb 3 (satellite_count f)) refl (holds (of false w)) ∙ rw w

  -- ---- 20: no type of the profile

  no-type : (k : ℕ) → (k ≡ 3 → ⊥) → (k ≡ 5 → ⊥) → (k ≡ 6 → ⊥) → (k ≡ 9 → ⊥) → (k ≡ 16 → ⊥) → in_order (type_order k f) Refused Inside ≡ Refused 20
  no-type k a b c d e = rw (ne_eqb k 3 a, ne_eqb k 5 b, ne_eqb k 6 c, ne_eqb k 9 d, ne_eqb k 16 e)

  pub other-type : (f.header.kind ≡ 3 → ⊥) → (f.header.kind ≡ 5 → ⊥) → (f.header.kind ≡ 6 → ⊥) → (f.header.kind ≡ 9 → ⊥)
      → (f.header.kind ≡ 16 → ⊥) → Refused 20 ≡ check_profile f
  other-type a b c d e = sym (passed f.header.kind refl ∙ no-type f.header.kind a b c d e)
