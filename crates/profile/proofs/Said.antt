-- What cutting says in the table's terms, and that every frame that it hands out can be kept. Assumes nothing.
use mathlib.Core.Path.{◌≡◌, refl, sym, ap, subst, ◌∙◌}
use mathlib.Core.Bool.{false}
use mathlib.Core.Logic.{◌⊎◌, inl, inr}
use mathlib.Core.List.{List, ◌++◌}
use Prim.Native.Nat.{ℕ, zero, suc, ◌+◌, ◌*◌, ◌≤◌, ◌<◌}
use native.Mathlib.Omega.{arith}
use lib.Dec.{eqb}
use lib.ListN.{length, take, drop, length-take}
use lib.Seq.{take-append_seam}
use borrow.Author.Tests.{eqb-true, not-false}
use Rattle.answer.specs.Order.{refuses, answers, in_order, NoneApplies, FirstIs}
use Rattle.answer.proofs.OrderLaws.{order-answers, order-refuses, first_or_none, says-order}
use Rattle.bits.specs.Rows.{words_in}
use Rattle.frame.specs.Frames.{framed, after_pair, bare}
use Rattle.frame.specs.Widths.{outside}
use Rattle.frame.specs.declared.Frame.{Frame}
use Rattle.frame.specs.declared.Header.{Header}
use Rattle.frame.specs.declared.System.TheVariants.{Gps}
use Rattle.frame.proofs.FrameLaws.{length-framed}
use Rattle.record_fields.specs.Coding.{Each, entry_bits, frame_with}
use Rattle.record_fields.proofs.Round.{made-n, made_inside}
use Rattle.record_stages.proofs.ListCode.{told-some-few}
use Rattle.record_corrections.specs.declared.Correction.{Correction}
use Rattle.record_corrections.specs.Corrections.{coding, fill}
use Rattle.profile.specs.declared.Cut.{Cut}
use Rattle.profile.specs.declared.Cutting.{Cutting}
use Rattle.profile.specs.declared.Cutting.TheVariants as cutting
use Rattle.profile.specs.Profile.{listed}
use Rattle.profile.specs.Cutting.{rising, part, cut_frame, frame_count, cut_frames, cut_order, no_frames, refused_cut, done_cut, cut_corrections, says_cut}
use Rattle.profile.proofs.Parts.{length-listed}
use Rattle.profile.proofs.CutLaws.{Sound, part-size, rising_inside}

-- a frame that can be kept: within its widths, and its words are 31
abbrev pub Whole : Frame → Type 0
Whole f = (outside f ≡ false) × (length f.words ≡ 31)

module _ (h : Header) (es : List Correction) where
  -- one frame, and all from number i on
  frame-whole : Sound h es → (i : ℕ) → 3 * i < length es → Whole (cut_frame h es i)
  unfolding cut_frame frame_with framed
  frame-whole s i there = (
    made_inside (coding Gps) fill (rising h i) (part es i) (rising_inside h i s.inside) (omega (arith, few)),
    length-framed (rising h i) (words_in fill (entry_bits (coding Gps) (part es i))) (omega (arith, made-n (coding Gps) fill (rising h i) (part es i), few)),
  )
    where
      few : length (part es i) ≤ 3
      few = omega (arith, part-size es i)

  frames-whole : Sound h es → (n i : ℕ) → i + n ≡ frame_count (length es) → Each Whole (listed (cut_frame h es) n i)
  frames-whole s zero i e = tt
  frames-whole s (suc n) i e = (frame-whole s i (omega arith), frames-whole s n (suc i) (omega arith))

  pub all_whole : Sound h es → Each Whole (cut_frames h es)
  all_whole s = frames-whole s (frame_count (length es)) 0 (omega arith)

  -- they are not from the line: their carried bits are 00
  pub own_pair : (n i : ℕ) → Each (λ f. bare f ≡ f) (listed (cut_frame h es) n i)
  unfolding cut_frame frame_with framed after_pair
  own_pair zero i = tt
  own_pair (suc n) i = (refl, own_pair n (suc i))

  -- the frames that are handed out
  pub cut-taken : take (length (cut_frames h es)) (cut_frames h es ++ drop (length (cut_frames h es)) no_frames) ≡ cut_frames h es
  cut-taken = take-append_seam (cut_frames h es) (drop (length (cut_frames h es)) no_frames)

module _ (h : Header) (es : List Correction) (c : ℕ) where
  -- the first number of its order, or the frames
  pub cut-said : says_cut (cut_corrections h es c) ≡ in_order (cut_order h es c) refuses (answers (cut_frames h (take c es)))
  unfolding cut_corrections refused_cut done_cut
  cut-said =
      says-order says_cut refused_cut (λ n. refl) (done_cut (cut_frames h (take c es))) (cut_order h es c) (ap answers (cut-taken h (take c es)))

  -- where no check applies, the list is sound
  pub sound : c ≤ length es → NoneApplies (cut_order h es c) → Sound h (take c es)
  sound there t =
      let n = told-some-few c 18 t.1.1.1.0 in
      record {
        inside = t.0;
        kind = eqb-true h.kind 9 (not-false (eqb h.kind 9) t.1.0);
        hour = t.1.1.0;
        some = omega (arith, length-take c es, n);
        few = omega (arith, length-take c es, n);
        ranges = t.1.1.1.1.0;
      }

  -- KEPT: what is handed out are at most six frames, each of which can be kept
  pub cut-whole : 18 ≤ length es → (n : ℕ) → cutting.Frames n ≡ (cut_corrections h es c).answer → (n ≤ 6) × Each Whole (take n (cut_corrections h es c).frames)
  unfolding cut_corrections refused_cut done_cut
  cut-whole full n e = go (first_or_none (cut_order h es c))
    where
      apart : (m : ℕ) → cutting.Frames n ≡ cutting.Refused m → ⊥
      apart m q = let z : ◌≡◌ {A = ℕ} 0 1 = cc in omega arith

      same : (a b : ℕ) → cutting.Frames a ≡ cutting.Frames b → a ≡ b
      same a b q = cc

      fs : List Frame
      fs = cut_frames h (take c es)

      go : NoneApplies (cut_order h es c) ⊎ ((m : ℕ) × FirstIs (cut_order h es c) m) → (n ≤ 6) × Each Whole (take n (cut_corrections h es c).frames)
      go (inl none) =
          let answered = order-answers refused_cut (done_cut fs) (cut_order h es c) none in
          let s = sound (omega (arith, told-some-few c 18 none.1.1.1.0, full)) none in
          let is = same n (length fs) (e ∙ ap (λ u. u.answer) answered) in
          let many = length-listed (cut_frame h (take c es)) (frame_count (length (take c es))) 0 in (
            omega (arith, is, many, s.few),
            subst (Each Whole) (sym (ap (λ u. take n u.frames) answered ∙ ap (λ m. take m (fs ++ drop (length fs) no_frames)) is ∙ cut-taken h (take c es)))
                (all_whole h (take c es) s),
          )
      go (inr (m, first)) = absurd (apart m (e ∙ ap (λ u. u.answer) (order-refuses refused_cut (done_cut fs) (cut_order h es c) m first)))

-- what is handed out, by its answer
said-by : (a : Cutting) (fs : List Frame) {n : ℕ} → cutting.Frames n ≡ a → answers (take n fs) ≡ says_cut (record { answer = a; frames = fs })
said-by (cutting.Frames m) fs e = cc
said-by (cutting.Refused m) fs e = let z : ◌≡◌ {A = ℕ} 0 1 = cc in absurd (omega arith)

refused-by : (a : Cutting) (fs : List Frame) {n : ℕ} → cutting.Refused n ≡ a → refuses n ≡ says_cut (record { answer = a; frames = fs })
refused-by (cutting.Frames m) fs e = let z : ◌≡◌ {A = ℕ} 0 1 = cc in absurd (omega arith)
refused-by (cutting.Refused m) fs e = cc

pub says-cut : (u : Cut) {n : ℕ} → cutting.Frames n ≡ u.answer → answers (take n u.frames) ≡ says_cut u
says-cut u e = said-by u.answer u.frames e

pub says-uncut : (u : Cut) {n : ℕ} → cutting.Refused n ≡ u.answer → refuses n ≡ says_cut u
says-uncut u e = refused-by u.answer u.frames e
