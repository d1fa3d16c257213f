-- What a record's numbers stand for, as a flag and a number: stop, no upper limit and not tracked have no number; and a text's letters. Assumes
-- nothing.
use Rattle.std.specs.Prelude.{Bool, [], ◌∷◌, ℕ, ltb, ℤ, pos}
use Rattle.answer.specs.Order.{Says, refuses, answers, in_order}
use Rattle.frame.specs.Header.{state_of}
use Rattle.record_values.specs.Values.{Reading, exactly, stop, stops_use, Bound, up_to, no_limit, Signal, db_hz, not_tracked}
use Rattle.record_values.specs.Answer.{prc_mm, rrc_mm_s, udre_limit, cn0_db_hz, letter_of, says_distance, says_rate, says_limit, says_strength, says_letter}
use Rattle.record_values.specs.GeneralValues.{Delayed, delayed, unusable}
use Rattle.record_values.specs.GeneralAnswer.{general_prc_mm, delay_mm, general_udre, use_seconds, says_delay, says_general_limit, says_period}

-- ---- what each call says

abbrev pub prc_said : ℕ → ℤ → Says Reading
prc_said scale prc = says_distance (prc_mm scale prc)

abbrev pub rrc_said : ℕ → ℤ → Says Reading
rrc_said scale rrc = says_rate (rrc_mm_s scale rrc)

-- whether the correction stops its satellite: never refused
abbrev pub stops_said : ℤ → ℤ → Says Bool
stops_said prc rrc = answers (stops_use prc rrc)

-- 5 for a health over 7, which no state has
abbrev pub limit_said : ℕ → ℕ → Says Bound
limit_said health udre = in_order ((ltb 7 health, 5) ∷ []) refuses (says_limit (udre_limit (state_of health) udre))

abbrev pub strength_said : ℕ → Says Signal
strength_said code = says_strength (cn0_db_hz code)

-- a character's number in Unicode
abbrev pub letter_said : ℕ → Says ℕ
letter_said code = says_letter (letter_of code)

-- ---- of types 41 and 42

abbrev pub general_prc_said : ℤ → Says Reading
general_prc_said prc = says_distance (general_prc_mm prc)

abbrev pub delay_said : ℕ → Says Delayed
delay_said delay = says_delay (delay_mm delay)

-- in hundredths of a mm; 5 for a health over 7
abbrev pub general_limit_said : ℕ → ℕ → Says Bound
general_limit_said health udre = in_order ((ltb 7 health, 5) ∷ []) refuses (says_general_limit (general_udre (state_of health) udre))

-- how long a correction may be used
abbrev pub seconds_said : ℕ → Says ℕ
seconds_said code = says_period (use_seconds code)

-- ---- the flag and the number

-- 1 for stop
abbrev pub stop_flag : Reading → ℕ
stop_flag (exactly z) = 0
stop_flag stop = 1

abbrev pub exact_or0 : Reading → ℤ
exact_or0 (exactly z) = z
exact_or0 stop = pos 0

-- 0 for no upper limit
abbrev pub limit_flag : Bound → ℕ
limit_flag (up_to mm) = 1
limit_flag no_limit = 0

abbrev pub limit_or0 : Bound → ℕ
limit_or0 (up_to mm) = mm
limit_or0 no_limit = 0

-- 0 for not tracked
abbrev pub tracked_flag : Signal → ℕ
tracked_flag (db_hz n) = 1
tracked_flag not_tracked = 0

abbrev pub db_hz_or0 : Signal → ℕ
db_hz_or0 (db_hz n) = n
db_hz_or0 not_tracked = 0

-- 0 for a delay that is not to be used
abbrev pub usable_flag : Delayed → ℕ
usable_flag (delayed mm) = 1
usable_flag unusable = 0

abbrev pub delay_or0 : Delayed → ℕ
delay_or0 (delayed mm) = mm
delay_or0 unusable = 0
