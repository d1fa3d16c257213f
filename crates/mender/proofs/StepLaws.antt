-- A step by the tests of the code: what is answered and left for each. Assumes nothing.
use Rattle.std.specs.Prelude.{Result, Ok, Err}
use Rattle.std.proofs.Common.{◌≡◌, ℕ, ◌+◌, ◌*◌, ◌<◌, ◌≤◌, Bool, true, false, cond, not, eqb, ltb, List, [], ◌∷◌, ◌++◌, length, take, drop, sym, refl, ap, ◌∙◌, subst, ap₂, arith, take_at, ltb-false, le-ltb, lt-ltb, eq-eqb, ne_eqb}
use Rattle.std.proofs.lemmas.Bool.Decides.{nat_tests}
use Rattle.std.specs.List.{starts_with}
use lib.Seq.{sets, sets-eq}
use Rattle.bits.specs.Fields.{AreBytes}
use Rattle.journal.specs.Forms.{unmarked}
use Rattle.journal.proofs.FormLaws.{length-with}
use Rattle.mender.specs.Records.{count_of, extent_of, reads, record_for}
use Rattle.mender.specs.Report.{changes_from, change_lines}
use Rattle.mender.specs.Steps.{judged_at, sought, step_by, bytes_after, report_of, report_room, done_mend, found_by, missed_by, missed_text}
use Rattle.mender.specs.Steps.{refused_mend, mend_by, bytes_to, output_to}
use Rattle.mender.specs.declared.record.NoEnd.{NoEnd}
use Rattle.mender.specs.declared.record.NoEnd.TheVariants as none
use Rattle.mender.specs.declared.Mended.{Mended}
use Rattle.mender.specs.declared.Step.{Step}
use Rattle.mender.specs.declared.Step.TheVariants.{End, Whole, Lost, Cut, Numberless, Passed}
use Rattle.mender.proofs.FewLaws.{few-changes}
use Rattle.mender.proofs.ReadLaws.{count-mended, whole-reads}

-- ---- what a call answers and leaves for a step

abbrev pub Stepped : Step → ℕ → List ℕ → List ℕ → Mended → List ℕ → List ℕ → Type 0
Stepped step at bs out r bs' out' = (r ≡ found_by step at bs) × ((bs' ≡ bytes_after step bs) × (out' ≡ sets out 0 (report_of at step bs)))

-- a record that is not whole
abbrev pub Missing : Step → Type 0
Missing End = ⊥
Missing (Whole size) = ⊥
Missing (Lost size) = Unit {0}
Missing Cut = Unit {0}
Missing Numberless = Unit {0}
Missing Passed = ⊥

pub missed-steps : (step : Step) → Missing step → (s : Bool) (at : ℕ) (bs out : List ℕ) {r : Mended} {out' : List ℕ}
    → r ≡ missed_by step at s → out' ≡ sets out 0 (missed_text at s) → Stepped (sought s step) at bs out r bs out'
missed-steps End m s at bs out er eo = absurd m
missed-steps (Whole size) m s at bs out er eo = absurd m
missed-steps (Lost size) m true at bs out er eo = (er, (refl, eo))
missed-steps (Lost size) m false at bs out er eo = (er, (refl, eo))
missed-steps Cut m true at bs out er eo = (er, (refl, eo))
missed-steps Cut m false at bs out er eo = (er, (refl, eo))
missed-steps Numberless m true at bs out er eo = (er, (refl, eo))
missed-steps Numberless m false at bs out er eo = (er, (refl, eo))
missed-steps Passed m s at bs out er eo = absurd m

-- ---- the record of n

module _ (n : ℕ) (bs : List ℕ) where
  pub record-long : length (record_for n bs) ≡ 4 * n + 11
  unfolding record_for
  record-long = length-with 0x34 4 n _ (count-mended n bs)

  -- the copy holds it
  pub copied : (l : List ℕ) → 135 ≤ length l → n ≤ 31 → {copy : List ℕ} → copy ≡ sets l 0 (record_for n bs) → take (4 * n + 11) copy ≡ record_for n bs
  copied l h k e =
      ap (take (4 * n + 11)) (e ∙ sets-eq (record_for n bs) l 0 (omega (arith, record-long)))
      ∙ take_at (record_for n bs) (drop (0 + length (record_for n bs)) l) (4 * n + 11) record-long

  module _ {read : Bool} (e : read ≡ reads (record_for n bs)) where
    pub lost-judged : read ≡ false → judged_at (Ok n) bs ≡ Lost (4 * n + 11)
    lost-judged f = ap (λ t. cond t (Whole (4 * n + 11)) (Lost (4 * n + 11))) (sym (whole-reads n bs) ∙ sym e ∙ f)

    pub whole-judged : read ≡ true → judged_at (Ok n) bs ≡ Whole (4 * n + 11)
    whole-judged t = ap (λ t. cond t (Whole (4 * n + 11)) (Lost (4 * n + 11))) (sym (whole-reads n bs) ∙ sym e ∙ t)

  pub lost-steps : judged_at (Ok n) bs ≡ Lost (4 * n + 11) → (s : Bool) (at : ℕ) (out : List ℕ) {r : Mended} {out' : List ℕ}
      → r ≡ missed_by (Lost (4 * n + 11)) at s → out' ≡ sets out 0 (missed_text at s) → Stepped (sought s (judged_at (Ok n) bs)) at bs out r bs out'
  lost-steps j s at out {r} {out'} er eo =
      subst (λ step. Stepped (sought s step) at bs out r bs out') (sym j) (missed-steps (Lost (4 * n + 11)) tt s at bs out er eo)

  sought-whole : (s : Bool) (size : ℕ) → sought s (Whole size) ≡ Whole size
  sought-whole true size = refl
  sought-whole false size = refl

  pub whole-steps : (s : Bool) → judged_at (Ok n) bs ≡ Whole (4 * n + 11) → n ≡ count_of bs → (at : ℕ) (out : List ℕ)
      {w : List ℕ} → w ≡ record_for n bs → {written : ℕ} {bs' out' : List ℕ}
      → written ≡ length (change_lines (changes_from at bs w)) → bs' ≡ w ++ drop (length w) bs → out' ≡ sets out 0 (change_lines (changes_from at bs w))
      → Stepped (sought s (judged_at (Ok n) bs)) at bs out (done_mend (Whole (4 * n + 11)) written) bs' out'
  whole-steps s j count at out {w} ew {written} {bs'} {out'} er eb eo =
      subst (λ step. Stepped step at bs out (done_mend (Whole (4 * n + 11)) written) bs' out') (sym (ap (sought s) j ∙ sought-whole s (4 * n + 11))) (
        ap (done_mend (Whole (4 * n + 11))) (er ∙ ap (λ x. length (change_lines (changes_from at bs x))) same),
        (
          eb ∙ ap₂ (λ x k. x ++ drop k bs) same (ap length ew ∙ record-long),
          eo ∙ ap (λ x. sets out 0 (change_lines (changes_from at bs x))) same,
        ),
      )
    where
      same : w ≡ record_for (count_of bs) bs
      same = ew ∙ ap (λ m. record_for m bs) count

  -- there is room for its report
  pub changes-room : (at : ℕ) → AreBytes bs → n ≤ 31 → 4 * n + 11 ≤ length bs → unmarked 0x34 bs ≡ false → {w : List ℕ} → w ≡ record_for n bs
      → {room : ℕ} → report_room ≤ room → (length w ≤ length bs) × (29 * length (changes_from at bs w) ≤ room)
  changes-room at f h l m {w} e {room} r = (
    omega (arith, ap length e, record-long),
    omega (arith, few-changes n at bs f h l m, ap (λ x. length (changes_from at bs x)) e),
  )

-- ---- the step, and the call

module _ (s : Bool) (bs : List ℕ) where
  pub step_end : length bs ≡ 0 → step_by s bs ≡ End
  unfolding step_by
  step_end e = simp (eq-eqb (length bs) 0 e)

  pub step-passed : (length bs ≡ 0 → ⊥) → unmarked 0x34 bs ≡ true → step_by s bs ≡ Passed
  unfolding step_by
  step-passed n u = simp (ne_eqb (length bs) 0 n, u)

  pub step-judged : (length bs ≡ 0 → ⊥) → unmarked 0x34 bs ≡ false → {p : Result ℕ NoEnd} → p ≡ extent_of bs → step_by s bs ≡ sought s (judged_at p bs)
  unfolding step_by
  step-judged n u e = simp (ne_eqb (length bs) 0 n, u) (ap (λ p. sought s (judged_at p bs)) (sym e))

  module _ (at : ℕ) (out : List ℕ) where
    abbrev pub Mends : Mended → List ℕ → List ℕ → Type 0
    Mends r bs' out' = (r ≡ mend_by bs at s out) × ((bs' ≡ bytes_to bs s out) × (out' ≡ output_to bs at s out))

    pub refused-mends : length out < report_room → Mends (refused_mend 13) bs out
    refused-mends h = simp (lt-ltb (length out) report_room h) (refl, (refl, refl))

    pub steps-mend : report_room ≤ length out → {step : Step} → step_by s bs ≡ step → {r : Mended} {bs' out' : List ℕ}
        → Stepped step at bs out r bs' out' → Mends r bs' out'
    steps-mend h e {r} {bs'} {out'} d =
        let t = subst (λ step. Stepped step at bs out r bs' out') (sym e) d in
        simp (le-ltb (length out) report_room h) t

-- the first two bytes are tested against the mark
pub mark-tested : (bs : List ℕ) → not (starts_with eqb bs (82 ∷ 52 ∷ [])) ≡ unmarked 0x34 bs
unfolding unmarked
mark-tested [] = refl
mark-tested (x ∷ []) = grind (arith, nat_tests)
mark-tested (x ∷ y ∷ bs) = grind (arith, nat_tests)

-- N where it is found
pub place-n : (bs : List ℕ) {n : ℕ} → extent_of bs ≡ Ok n → (n ≡ count_of bs) × ((n ≤ 31) × (4 * n + 11 ≤ length bs))
unfolding extent_of
place-n bs {n} = go (ltb (length bs) 11) (ltb 31 (count_of bs)) refl (ltb (length bs) (4 * count_of bs + 11)) refl
  where
    go : (a b : Bool) → ltb 31 (count_of bs) ≡ b → (c : Bool) → ltb (length bs) (4 * count_of bs + 11) ≡ c
        → cond a (Err none.Cut) (cond b (Err none.Numberless) (cond c (Err none.Cut) (Ok (count_of bs)))) ≡ Ok n
        → (n ≡ count_of bs) × ((n ≤ 31) × (4 * n + 11 ≤ length bs))
    go true b eb c ec e = absurd (let z : ◌≡◌ {A = ℕ} 0 1 = cc in omega arith)
    go false true eb c ec e = absurd (let z : ◌≡◌ {A = ℕ} 0 1 = cc in omega arith)
    go false false eb true ec e = absurd (let z : ◌≡◌ {A = ℕ} 0 1 = cc in omega arith)
    go false false eb false ec e =
        let same : n ≡ count_of bs = cc in
        (same, (omega (arith, ltb-false 31 (count_of bs) eb), omega (arith, ltb-false (length bs) (4 * count_of bs + 11) ec)))
