-- What a step of the mender says: its refusal, or the step and the length of its report; and the places that are left for each. Assumes nothing.
use mathlib.Core.Path.{◌≡◌, sym, ap, ◌∙◌}
use mathlib.Core.Bool.{Bool}
use mathlib.Core.List.{List}
use Prim.Native.Nat.{ℕ}
use lib.ListN.{length}
use Rattle.answer.specs.Order.{refuses, answers}
use Rattle.bits.specs.Bits.{is_nonzero}
use Rattle.mender.specs.Run.{on_of}
use Rattle.mender.specs.Steps.{mend_by, bytes_to, output_to, says_mend, says_mended}
use Rattle.mender.specs.declared.Answer.TheVariants.{Done, Refused}
use Rattle.mender.specs.declared.Mended.{Mended}
use Rattle.rtcm2.specs.Answer.{number_of, left}
use Rattle.rtcm2.specs.Mending.{step_number, mend_said}

module _ (bs : List ℕ) (at searching : ℕ) (report : List ℕ) where
  -- the answer and the five places that a call leaves
  abbrev pub MendsTo : ℕ → List ℕ → List ℕ → ℕ → ℕ → ℕ → ℕ → ℕ → ℕ → Type 0
  MendsTo number bs' report' step step' read read' written written' =
      (number ≡ number_of (mend_said bs at searching report))
      × ((bs' ≡ bytes_to bs (is_nonzero searching) report)
      × ((report' ≡ output_to bs at (is_nonzero searching) report)
      × ((step' ≡ left (mend_said bs at searching report) (λ v. step_number v.0) step)
      × ((read' ≡ left (mend_said bs at searching report) (λ v. on_of v.0 (length bs)) read)
      × (written' ≡ left (mend_said bs at searching report) (λ v. v.1) written)))))

  module _ {m : Mended} {s : Bool} (es : s ≡ is_nonzero searching) (e : m ≡ mend_by bs at s report)
      {bs' report' : List ℕ} (eb : bs' ≡ bytes_to bs s report) (eo : report' ≡ output_to bs at s report) where
    is : m ≡ mend_by bs at (is_nonzero searching) report
    is = e ∙ ap (λ t. mend_by bs at t report) es

    bytes-is : bs' ≡ bytes_to bs (is_nonzero searching) report
    bytes-is = eb ∙ ap (λ t. bytes_to bs t report) es

    report-is : report' ≡ output_to bs at (is_nonzero searching) report
    report-is = eo ∙ ap (λ t. output_to bs at t report) es

    pub mend-refused : {k : ℕ} → m.answer ≡ Refused k → (step read written : ℕ) → MendsTo k bs' report' step step read read written written
    mend-refused {k} q step read written = (
      sym (ap number_of says),
      (
        bytes-is,
        (
          report-is,
          (
            sym (ap (λ t. left t (λ v. step_number v.0) step) says),
            (sym (ap (λ t. left t (λ v. on_of v.0 (length bs)) read) says), sym (ap (λ t. left t (λ v. v.1) written) says)),
          ),
        ),
      ),
    )
      where
        says : mend_said bs at searching report ≡ refuses k
        says = ap says_mended (sym is) ∙ ap (λ a. says_mend a m.step m.written) q

    pub mend-done : m.answer ≡ Done → (step read written : ℕ) {code on : ℕ} → code ≡ step_number m.step → on ≡ on_of m.step (length bs)
        → MendsTo 0 bs' report' step code read on written m.written
    mend-done q step read written ec en = (
      sym (ap number_of says),
      (
        bytes-is,
        (
          report-is,
          (
            ec ∙ sym (ap (λ t. left t (λ v. step_number v.0) step) says),
            (en ∙ sym (ap (λ t. left t (λ v. on_of v.0 (length bs)) read) says), sym (ap (λ t. left t (λ v. v.1) written) says)),
          ),
        ),
      ),
    )
      where
        says : mend_said bs at searching report ≡ answers (m.step, m.written)
        says = ap says_mended (sym is) ∙ ap (λ a. says_mend a m.step m.written) q
