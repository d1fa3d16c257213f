-- What the value functions answer, and what each answer says in the table's terms. Assumes nothing.
use Rattle.std.specs.Prelude.{[], ◌∷◌, ℕ, ◌*◌, ltb, ℤ}
use Rattle.answer.specs.Order.{Says, refuses, answers, in_order}
use Rattle.frame.specs.Widths.{state_outside, late}
use Rattle.frame.specs.declared.State.{State}
use Rattle.record_values.specs.Values.{Reading, exactly, stop, Bound, up_to, no_limit, Signal, db_hz, not_tracked, prc_value, rrc_value, udre_value, cn0_value}
use Rattle.record_values.specs.Values.{no_letter, letter_value}
use Rattle.record_values.specs.declared.Distance.{Distance}
use Rattle.record_values.specs.declared.Distance.TheVariants as distance
use Rattle.record_values.specs.declared.Rate.{Rate}
use Rattle.record_values.specs.declared.Rate.TheVariants as rate
use Rattle.record_values.specs.declared.Limit.{Limit}
use Rattle.record_values.specs.declared.Limit.TheVariants as limit
use Rattle.record_values.specs.declared.Strength.{Strength}
use Rattle.record_values.specs.declared.Strength.TheVariants as strength
use Rattle.record_values.specs.declared.Time.{Time}
use Rattle.record_values.specs.declared.Time.TheVariants as time
use Rattle.record_values.specs.declared.SinceHour.{SinceHour}
use Rattle.record_values.specs.declared.SinceHour.TheVariants as since
use Rattle.record_values.specs.declared.Letter.{Letter}
use Rattle.record_values.specs.declared.Letter.TheVariants as letter

-- ---- a value as an answer

abbrev pub distance_of : Reading → Distance
distance_of (exactly mm) = distance.Millimetres mm
distance_of stop = distance.Stop

abbrev pub rate_of : Reading → Rate
rate_of (exactly mm) = rate.MillimetresPerSecond mm
rate_of stop = rate.Stop

abbrev pub limit_of : Bound → Limit
limit_of (up_to mm) = limit.Millimetres mm
limit_of no_limit = limit.NoLimit

abbrev pub strength_of : Signal → Strength
strength_of (db_hz n) = strength.DbHz n
strength_of not_tracked = strength.NotTracked

-- ---- the answers

-- PRC in mm, RRC in mm/s: refusal 10 for a scale other than 0 and 1
abbrev pub prc_mm : ℕ → ℤ → Distance
prc_mm scale prc = in_order ((ltb 1 scale, 10) ∷ []) distance.Refused (distance_of (prc_value scale prc))

abbrev pub rrc_mm_s : ℕ → ℤ → Rate
rrc_mm_s scale rrc = in_order ((ltb 1 scale, 10) ∷ []) rate.Refused (rate_of (rrc_value scale rrc))

-- a UDRE's upper limit: 5 for a factor other than the six, 10 for a code over 3
abbrev pub udre_limit : State → ℕ → Limit
udre_limit s udre = in_order ((state_outside s, 5) ∷ (ltb 3 udre, 10) ∷ []) limit.Refused (limit_of (udre_value s udre))

-- C/N0: 10 for a code over 31
abbrev pub cn0_db_hz : ℕ → Strength
cn0_db_hz code = in_order ((ltb 31 code, 10) ∷ []) strength.Refused (strength_of (cn0_value code))

-- the time of a health entry, 5 minutes each: 10 for a code over 15
abbrev pub minutes_of : ℕ → Time
minutes_of code = in_order ((ltb 15 code, 10) ∷ []) time.Refused (time.Minutes (5 * code))

-- a Z count, 0.6 s each: 5 for one over 13 bits, 7 for 6000 to 8191
abbrev pub z_tenths : ℕ → SinceHour
z_tenths z = in_order ((ltb 8191 z, 5) ∷ (late z, 7) ∷ []) since.Refused (since.Tenths (6 * z))

-- a character of types 16 and 36 in Unicode: 11 for a code that is no character
abbrev pub letter_of : ℕ → Letter
letter_of code = in_order ((no_letter code, 11) ∷ []) letter.Refused (letter.Unicode (letter_value code))

-- ---- in the table's terms

abbrev pub says_distance : Distance → Says Reading
says_distance (distance.Millimetres mm) = answers (exactly mm)
says_distance distance.Stop = answers stop
says_distance (distance.Refused n) = refuses n

abbrev pub says_rate : Rate → Says Reading
says_rate (rate.MillimetresPerSecond mm) = answers (exactly mm)
says_rate rate.Stop = answers stop
says_rate (rate.Refused n) = refuses n

abbrev pub says_limit : Limit → Says Bound
says_limit (limit.Millimetres mm) = answers (up_to mm)
says_limit limit.NoLimit = answers no_limit
says_limit (limit.Refused n) = refuses n

abbrev pub says_strength : Strength → Says Signal
says_strength (strength.DbHz n) = answers (db_hz n)
says_strength strength.NotTracked = answers not_tracked
says_strength (strength.Refused n) = refuses n

abbrev pub says_time : Time → Says ℕ
says_time (time.Minutes n) = answers n
says_time (time.Refused n) = refuses n

abbrev pub says_since_hour : SinceHour → Says ℕ
says_since_hour (since.Tenths n) = answers n
says_since_hour (since.Refused n) = refuses n

abbrev pub says_letter : Letter → Says ℕ
says_letter (letter.Unicode n) = answers n
says_letter (letter.Refused n) = refuses n
