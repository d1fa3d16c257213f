-- UDRE: 5 for a health over 7, then 10; the state of a health code is one of the eight, so the limit's own 5 never comes. The other values
-- have the orders of record_values/proofs/AnswerLaws and GeneralLaws as they are. Assumes nothing.
use mathlib.Core.Path.{◌≡◌, ap, ◌∙◌}
use mathlib.Core.List.{[], ◌∷◌}
use Prim.Native.Nat.{ℕ}
use lib.Dec.{ltb}
use Rattle.answer.specs.Order.{refuses, answers, in_order}
use Rattle.frame.specs.Header.{state_of}
use Rattle.frame.specs.Widths.{state_outside}
use Rattle.frame.proofs.StateLaws.{state-inside}
use Rattle.record_values.specs.Values.{udre_value}
use Rattle.record_values.specs.GeneralValues.{general_udre_value}
use Rattle.record_values.proofs.AnswerLaws.{udre-says}
use Rattle.record_values.proofs.GeneralLaws.{general-udre-says}
use Rattle.rtcm2.specs.Values.{limit_said, general_limit_said}
use Rattle.rtcm2.specs.Orders.{limit_order}
use Rattle.rtcm2.specs.GeneralOrders.{general_limit_order}
use Rattle.rtcm2.proofs.Orders.{pass-five}

pub limit_order_lem : (health udre : ℕ)
    → limit_said health udre ≡ in_order (limit_order health udre) refuses (answers (udre_value (state_of health) udre))
limit_order_lem health udre =
    ap (in_order ((ltb 7 health, 5) ∷ []) refuses) (udre-says (state_of health) udre)
    ∙ pass-five ((ltb 7 health, 5) ∷ []) [] (state_outside (state_of health)) ((ltb 3 udre, 10) ∷ []) (answers (udre_value (state_of health) udre))
    (λ none. state-inside health)

-- the same of types 41 and 42, where the last code is 15
pub general-limit-order : (health udre : ℕ)
    → general_limit_said health udre ≡ in_order (general_limit_order health udre) refuses (answers (general_udre_value (state_of health) udre))
general-limit-order health udre =
    ap (in_order ((ltb 7 health, 5) ∷ []) refuses) (general-udre-says (state_of health) udre)
    ∙ pass-five ((ltb 7 health, 5) ∷ []) [] (state_outside (state_of health)) ((ltb 15 udre, 10) ∷ []) (answers (general_udre_value (state_of health) udre))
    (λ none. state-inside health)
