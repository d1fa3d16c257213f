-- What the value functions of types 41 and 42 answer, and what each answer says in the table's terms. Assumes nothing.
use Rattle.std.specs.Prelude.{[], ◌∷◌, ℕ, ltb, ℤ, get_or}
use Rattle.answer.specs.Order.{Says, refuses, answers, in_order}
use Rattle.frame.specs.Widths.{state_outside}
use Rattle.frame.specs.declared.State.{State}
use Rattle.record_values.specs.Values.{Bound, up_to, no_limit}
use Rattle.record_values.specs.GeneralValues.{general_prc_value, outside14, Delayed, delayed, unusable, delay_value, general_udre_value, seconds_of_use}
use Rattle.record_values.specs.Answer.{distance_of}
use Rattle.record_values.specs.declared.Distance.{Distance}
use Rattle.record_values.specs.declared.Distance.TheVariants as distance
use Rattle.record_values.specs.declared.Delay.{Delay}
use Rattle.record_values.specs.declared.Delay.TheVariants as delay
use Rattle.record_values.specs.declared.GeneralLimit.{GeneralLimit}
use Rattle.record_values.specs.declared.GeneralLimit.TheVariants as limit
use Rattle.record_values.specs.declared.Period.{Period}
use Rattle.record_values.specs.declared.Period.TheVariants as period

-- ---- a value as an answer

abbrev pub delay_of : Delayed → Delay
delay_of (delayed mm) = delay.Millimetres mm
delay_of unusable = delay.Unusable

abbrev pub general_limit_of : Bound → GeneralLimit
general_limit_of (up_to hundredths) = limit.Hundredths hundredths
general_limit_of no_limit = limit.NoLimit

-- ---- the answers

-- PRC in mm: 10 outside 14 bits
abbrev pub general_prc_mm : ℤ → Distance
general_prc_mm prc = in_order ((outside14 prc, 10) ∷ []) distance.Refused (distance_of (general_prc_value prc))

-- the delay in mm: 10 over 4095
abbrev pub delay_mm : ℕ → Delay
delay_mm code = in_order ((ltb 4095 code, 10) ∷ []) delay.Refused (delay_of (delay_value code))

-- a UDRE's upper limit in hundredths of a mm: 5 for a factor other than the six, 10 for a code over 15
abbrev pub general_udre : State → ℕ → GeneralLimit
general_udre s udre = in_order ((state_outside s, 5) ∷ (ltb 15 udre, 10) ∷ []) limit.Refused (general_limit_of (general_udre_value s udre))

-- the longest use in seconds: 10 for a code over 3
abbrev pub use_seconds : ℕ → Period
use_seconds code = in_order ((ltb 3 code, 10) ∷ []) period.Refused (period.Seconds (get_or seconds_of_use code 0))

-- ---- in the table's terms

abbrev pub says_delay : Delay → Says Delayed
says_delay (delay.Millimetres mm) = answers (delayed mm)
says_delay delay.Unusable = answers unusable
says_delay (delay.Refused n) = refuses n

abbrev pub says_general_limit : GeneralLimit → Says Bound
says_general_limit (limit.Hundredths hundredths) = answers (up_to hundredths)
says_general_limit limit.NoLimit = answers no_limit
says_general_limit (limit.Refused n) = refuses n

abbrev pub says_period : Period → Says ℕ
says_period (period.Seconds n) = answers n
says_period (period.Refused n) = refuses n
