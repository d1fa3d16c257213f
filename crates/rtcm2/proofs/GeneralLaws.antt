-- What reading the head of general corrections leaves at its five places follows from what the frame says. Assumes nothing.
use mathlib.Core.Path.{◌≡◌}
use Prim.Native.Nat.{ℕ}
use Rattle.answer.specs.Order.{Says}
use Rattle.record_generals.specs.declared.GeneralHead.{GeneralHead}
use Rattle.rtcm2.specs.Answer.{number_of, left}
use Rattle.rtcm2.specs.Generals.{system_said, signal_said, ephemeris_said, period_said, ionosphere_said}
use Rattle.rtcm2.proofs.AnswerLaws.{number-as, left_as}

pub heads-as : (system signal ephemeris period ionosphere : ℕ) {said said' : Says GeneralHead} → said ≡ said'
    → (number_of said ≡ number_of said')
    × ((left said system_said system ≡ left said' system_said system)
    × ((left said signal_said signal ≡ left said' signal_said signal)
    × ((left said ephemeris_said ephemeris ≡ left said' ephemeris_said ephemeris)
    × ((left said period_said period ≡ left said' period_said period)
    × (left said ionosphere_said ionosphere ≡ left said' ionosphere_said ionosphere)))))
heads-as system signal ephemeris period ionosphere e = (
  number-as e,
  (
    left_as system_said system e,
    (left_as signal_said signal e, (left_as ephemeris_said ephemeris e, (left_as period_said period e, left_as ionosphere_said ionosphere e))),
  ),
)
