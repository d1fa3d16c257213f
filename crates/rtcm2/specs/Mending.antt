-- The call that mends a journal, a step a call. Assumes nothing.
use Rattle.std.specs.Prelude.{List, ℕ}
use Rattle.answer.specs.Order.{Says}
use Rattle.bits.specs.Bits.{is_nonzero}
use Rattle.mender.specs.Steps.{mend_by, says_mended}
use Rattle.mender.specs.declared.Step.{Step}
use Rattle.mender.specs.declared.Step.TheVariants.{End, Whole, Lost, Cut, Numberless, Passed}

-- a step as its number
abbrev pub step_number : Step → ℕ
step_number End = 0
step_number (Whole size) = 1
step_number (Lost size) = 2
step_number Cut = 3
step_number Numberless = 4
step_number Passed = 5

-- 13, or the step and how long its report is; any flag but 0 says that a mark is searched for
abbrev pub mend_said : List ℕ → ℕ → ℕ → List ℕ → Says (Step × ℕ)
mend_said bs at searching report = says_mended (mend_by bs at (is_nonzero searching) report)
