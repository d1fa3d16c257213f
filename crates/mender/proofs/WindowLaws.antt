-- PIECES: a step looks at no more than 135 bytes, so that a step on a window of a journal is the step on the journal. Assumes nothing.
use Rattle.std.specs.Prelude.{Result, Ok, Err}
use Rattle.std.proofs.Common.{◌≡◌, ℕ, zero, suc, ◌+◌, ◌*◌, ◌≤◌, Bool, true, false, cond, not, ◌&&◌, ◌||◌, eqb, ltb, List, ◌∷◌, ◌++◌, map, length, take, drop, sym, refl, ap, ◌∙◌, ap₂, append_assoc, arith, length-append, length-drop, ltb-false, le-ltb, ne_eqb}
use lib.ListN.{get_or-append}
use lib.Seq.{take-append-le, drop-append-le}
use Rattle.journal.specs.Bytes.{word_in, words_from}
use Rattle.journal.specs.Forms.{record_with, unmarked}
use Rattle.mender_words.specs.Words.{mended_by, mended_to}
use Rattle.mender.specs.Records.{counted_by, count_of, extent_of, windows_of, spoilt, reads, record_for, whole}
use Rattle.mender.specs.Report.{changes_from, change_lines}
use Rattle.mender.specs.Steps.{judged_at, sought, step_by, bytes_after, report_of}
use Rattle.mender.specs.declared.record.NoEnd.{NoEnd}
use Rattle.mender.specs.declared.record.NoEnd.TheVariants as none
use Rattle.mender.specs.declared.Step.{Step}
use Rattle.mender.specs.declared.Step.TheVariants.{End, Whole, Lost, Cut, Numberless, Passed}
use Rattle.mender.proofs.StepLaws.{record-long}
use Rattle.mender.proofs.SeenLaws.{Saw, saw}
use Rattle.mender.proofs.RunLaws.{changes-front}

words-front : (m : ℕ) (bs e : List ℕ) → 4 * m ≤ length bs → words_from 4 m (bs ++ e) ≡ words_from 4 m bs
unfolding words_from
words-front zero bs e h = refl
words-front (suc m) bs e h =
    ap₂ (λ a r. word_in a ∷ words_from 4 m r) (take-append-le 4 bs e (omega arith)) (drop-append-le 4 bs e (omega arith))
    ∙ ap (λ r. word_in (take 4 bs) ∷ r) (words-front m (drop 4 bs) e (omega (arith, length-drop 4 bs)))

module _ (w e : List ℕ) (h : 135 ≤ length w) where
  longer : 135 ≤ length (w ++ e)
  longer = omega (arith, length-append w e)

  same-mark : unmarked 0x34 (w ++ e) ≡ unmarked 0x34 w
  unfolding unmarked
  same-mark =
      ap₂ (λ s t. s || not t)
      (le-ltb (length (w ++ e)) 2 (omega (arith, longer)) ∙ sym (le-ltb (length w) 2 (omega arith)))
      (ap₂ (λ a b. eqb a 0x52 && eqb b 0x34) (get_or-append w e 0 0 (omega arith)) (get_or-append w e 0 1 (omega arith)))

  pub same_count : count_of (w ++ e) ≡ count_of w
  unfolding count_of
  same_count =
      ap₂ (λ v b. counted_by v b (mended_by v))
      (ap word_in (ap (take 4) (drop-append-le 7 w e (omega arith)) ∙ take-append-le 4 (drop 7 w) e (omega (arith, length-drop 7 w))))
      (get_or-append w e 0 2 (omega arith))

  module _ (n : ℕ) (few : n ≤ 31) where
    same-windows : windows_of n (w ++ e) ≡ windows_of n w
    same-windows =
        ap (words_from 4 (suc (suc n))) (drop-append-le 3 w e (omega arith)) ∙ words-front (suc (suc n)) (drop 3 w) e (omega (arith, length-drop 3 w))

    pub same-record : record_for n (w ++ e) ≡ record_for n w
    unfolding record_for
    same-record = ap (λ vs. record_with 0x34 4 n (map mended_to vs)) same-windows

    same_whole : whole n (w ++ e) ≡ whole n w
    unfolding whole
    same_whole = ap₂ (λ vs r. not (spoilt vs) && reads r) same-windows same-record

  -- with so many bytes no record is cut short
  place-known : (bs : List ℕ) → 135 ≤ length bs → extent_of bs ≡ cond (ltb 31 (count_of bs)) (Err none.Numberless) (Ok (count_of bs))
  unfolding extent_of
  place-known bs l = ap (λ t. cond t (Err none.Cut) later) (le-ltb (length bs) 11 (omega arith)) ∙ go (ltb 31 (count_of bs)) refl
    where
      later : Result ℕ NoEnd
      later = cond (ltb 31 (count_of bs)) (Err none.Numberless) (cond (ltb (length bs) (4 * count_of bs + 11)) (Err none.Cut) (Ok (count_of bs)))

      go : (t : Bool) → ltb 31 (count_of bs) ≡ t
          → cond t (Err none.Numberless) (cond (ltb (length bs) (4 * count_of bs + 11)) (Err none.Cut) (Ok (count_of bs))) ≡ cond t (Err none.Numberless)
          (Ok (count_of bs))
      go true q = refl
      go false q =
          ap (λ t. cond t (Err none.Cut) (Ok (count_of bs))) (le-ltb (length bs) (4 * count_of bs + 11) (omega (arith, ltb-false 31 (count_of bs) q)))

  same_place : extent_of (w ++ e) ≡ extent_of w
  same_place =
      place-known (w ++ e) longer ∙ ap (λ n. cond (ltb 31 n) (Err none.Numberless) (Ok n)) same_count ∙ sym (place-known w h)

  same-judged : judged_at (extent_of (w ++ e)) (w ++ e) ≡ judged_at (extent_of w) w
  same-judged =
      ap (λ p. judged_at p (w ++ e)) (same_place ∙ place-known w h) ∙ go (ltb 31 (count_of w)) refl ∙ sym (ap (λ p. judged_at p w) (place-known w h))
    where
      go : (t : Bool) → ltb 31 (count_of w) ≡ t
          → judged_at (cond t (Err none.Numberless) (Ok (count_of w))) (w ++ e) ≡ judged_at (cond t (Err none.Numberless) (Ok (count_of w))) w
      go true q = refl
      go false q = ap (λ t. cond t (Whole (4 * count_of w + 11)) (Lost (4 * count_of w + 11))) (same_whole (count_of w) (ltb-false 31 (count_of w) q))

  -- THE STEP
  pub windowed-step : (s : Bool) → step_by s (w ++ e) ≡ step_by s w
  unfolding step_by
  windowed-step s =
      simp (ne_eqb (length (w ++ e)) 0 (λ q. omega (arith, longer)), ne_eqb (length w) 0 (λ q. omega arith))
      (ap₂ (λ u j. cond u Passed (sought s j)) same-mark same-judged)

  -- the bytes after it, and its report
  module _ (s : Bool) where
    pub windowed-bytes : bytes_after (step_by s (w ++ e)) (w ++ e) ≡ bytes_after (step_by s w) w ++ e
    windowed-bytes = ap (λ step. bytes_after step (w ++ e)) (windowed-step s) ∙ go (step_by s w) (saw s w)
      where
        go : (step : Step) → Saw w step → bytes_after step (w ++ e) ≡ bytes_after step w ++ e
        go End k = refl
        go (Whole size) k =
            ap₂ ◌++◌ (ap (λ n. record_for n (w ++ e)) same_count ∙ same-record (count_of w) k.0.few) (drop-append-le size w e k.0.there)
            ∙ sym (append_assoc (record_for (count_of w) w) (drop size w) e)
        go (Lost size) k = refl
        go Cut k = refl
        go Numberless k = refl
        go Passed k = refl

    pub windowed-report : (at : ℕ) → report_of at (step_by s (w ++ e)) (w ++ e) ≡ report_of at (step_by s w) w
    windowed-report at = ap (λ step. report_of at step (w ++ e)) (windowed-step s) ∙ go (step_by s w) (saw s w)
      where
        go : (step : Step) → Saw w step → report_of at step (w ++ e) ≡ report_of at step w
        go End k = refl
        go (Whole size) k =
            ap change_lines
            (ap (changes_from at (w ++ e)) (ap (λ n. record_for n (w ++ e)) same_count ∙ same-record (count_of w) k.0.few)
            ∙ changes-front at size (w ++ e) (record_for (count_of w) w) (omega (arith, k.0.there, length-append w e)) long
            ∙ ap (λ x. changes_from at x (record_for (count_of w) w)) (take-append-le size w e k.0.there)
            ∙ sym (changes-front at size w (record_for (count_of w) w) k.0.there long))
          where
            long : length (record_for (count_of w) w) ≡ size
            long = record-long (count_of w) w ∙ sym k.0.size_is
        go (Lost size) k = refl
        go Cut k = refl
        go Numberless k = refl
        go Passed k = refl
