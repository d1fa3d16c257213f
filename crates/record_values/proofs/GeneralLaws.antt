-- The answers of the values of types 41 and 42 in the table's terms: each call refuses by its order, else it answers the value.
-- Assumes nothing.
use mathlib.Core.Path.{◌≡◌, refl}
use mathlib.Core.List.{[], ◌∷◌}
use Prim.Native.Nat.{ℕ}
use lib.Dec.{ltb}
use lib.IntN.{ℤ}
use lib.ListN.{get_or}
use Rattle.answer.specs.Order.{refuses, answers, in_order}
use Rattle.answer.proofs.OrderLaws.{says-order}
use Rattle.frame.specs.Widths.{state_outside}
use Rattle.frame.specs.declared.State.{State}
use Rattle.record_values.specs.Values.{Bound, up_to, no_limit}
use Rattle.record_values.specs.Answer.{says_distance}
use Rattle.record_values.specs.GeneralValues.{general_prc_value, outside14, Delayed, delayed, unusable, delay_value, general_udre_value, seconds_of_use}
use Rattle.record_values.specs.GeneralAnswer.{delay_of, general_limit_of, general_prc_mm, delay_mm, general_udre, use_seconds}
use Rattle.record_values.specs.GeneralAnswer.{says_delay, says_general_limit, says_period}
use Rattle.record_values.specs.declared.Distance.TheVariants as distance
use Rattle.record_values.specs.declared.Delay.TheVariants as delay
use Rattle.record_values.specs.declared.GeneralLimit.TheVariants as limit
use Rattle.record_values.specs.declared.Period.TheVariants as period
use Rattle.record_values.proofs.AnswerLaws.{as-distance}

as-delay : (x : Delayed) → says_delay (delay_of x) ≡ answers x
as-delay (delayed mm) = refl
as-delay unusable = refl

as-limit : (x : Bound) → says_general_limit (general_limit_of x) ≡ answers x
as-limit (up_to hundredths) = refl
as-limit no_limit = refl

pub general-prc-says : (prc : ℤ) → says_distance (general_prc_mm prc) ≡ in_order ((outside14 prc, 10) ∷ []) refuses (answers (general_prc_value prc))
general-prc-says prc = says-order says_distance distance.Refused (λ n. refl) _ ((outside14 prc, 10) ∷ []) (as-distance (general_prc_value prc))

pub delay-says : (code : ℕ) → says_delay (delay_mm code) ≡ in_order ((ltb 4095 code, 10) ∷ []) refuses (answers (delay_value code))
delay-says code = says-order says_delay delay.Refused (λ n. refl) _ ((ltb 4095 code, 10) ∷ []) (as-delay (delay_value code))

pub general-udre-says : (s : State) (udre : ℕ)
    → says_general_limit (general_udre s udre) ≡ in_order ((state_outside s, 5) ∷ (ltb 15 udre, 10) ∷ []) refuses (answers (general_udre_value s udre))
general-udre-says s udre =
    says-order says_general_limit limit.Refused (λ n. refl) _ ((state_outside s, 5) ∷ (ltb 15 udre, 10) ∷ []) (as-limit (general_udre_value s udre))

pub use-says : (code : ℕ) → says_period (use_seconds code) ≡ in_order ((ltb 3 code, 10) ∷ []) refuses (answers (get_or seconds_of_use code 0))
use-says code = says-order says_period period.Refused (λ n. refl) _ ((ltb 3 code, 10) ∷ []) refl
