-- The answers in the table's terms: each call refuses by its order, and where no number of it applies it answers the value.
-- Assumes nothing.
use mathlib.Core.Path.{◌≡◌, refl, ap, ◌∙◌}
use mathlib.Core.Bool.{false}
use mathlib.Core.List.{[], ◌∷◌}
use Prim.Native.Nat.{ℕ, ◌*◌, ◌≤◌}
use lib.Dec.{ltb}
use lib.IntN.{ℤ, pos, ◌*ℤ◌}
use borrow.Author.Tests.{le-ltb}
use Rattle.answer.specs.Order.{refuses, answers, in_order}
use Rattle.answer.proofs.OrderLaws.{says-order, order-answers}
use Rattle.frame.specs.Widths.{state_outside, late}
use Rattle.frame.specs.declared.State.{State}
use Rattle.record_values.specs.Values.{Reading, exactly, stop, Bound, up_to, no_limit, Signal, db_hz, not_tracked}
use Rattle.record_values.specs.Values.{step_of, prc_value, rrc_value, stops_use, udre_value, cn0_value, no_letter, letter_value}
use Rattle.record_values.specs.Answer.{distance_of, rate_of, limit_of, strength_of, prc_mm, rrc_mm_s, udre_limit, cn0_db_hz, minutes_of, z_tenths, letter_of}
use Rattle.record_values.specs.Answer.{says_distance, says_rate, says_limit, says_strength, says_time, says_since_hour, says_letter}
use Rattle.record_values.specs.declared.Distance.TheVariants as distance
use Rattle.record_values.specs.declared.Rate.TheVariants as rate
use Rattle.record_values.specs.declared.Limit.TheVariants as limit
use Rattle.record_values.specs.declared.Strength.TheVariants as strength
use Rattle.record_values.specs.declared.Time.TheVariants as time
use Rattle.record_values.specs.declared.SinceHour.TheVariants as since
use Rattle.record_values.specs.declared.Letter.TheVariants as letter
use Rattle.record_values.proofs.Readings.{exact-other, neither-lowest}

pub as-distance : (x : Reading) → says_distance (distance_of x) ≡ answers x
as-distance (exactly mm) = refl
as-distance stop = refl

as-rate : (x : Reading) → says_rate (rate_of x) ≡ answers x
as-rate (exactly mm) = refl
as-rate stop = refl

as-limit : (x : Bound) → says_limit (limit_of x) ≡ answers x
as-limit (up_to mm) = refl
as-limit no_limit = refl

as-strength : (x : Signal) → says_strength (strength_of x) ≡ answers x
as-strength (db_hz n) = refl
as-strength not_tracked = refl

pub prc-says : (scale : ℕ) (prc : ℤ) → says_distance (prc_mm scale prc) ≡ in_order ((ltb 1 scale, 10) ∷ []) refuses (answers (prc_value scale prc))
prc-says scale prc = says-order says_distance distance.Refused (λ n. refl) _ ((ltb 1 scale, 10) ∷ []) (as-distance (prc_value scale prc))

pub rrc-says : (scale : ℕ) (rrc : ℤ) → says_rate (rrc_mm_s scale rrc) ≡ in_order ((ltb 1 scale, 10) ∷ []) refuses (answers (rrc_value scale rrc))
rrc-says scale rrc = says-order says_rate rate.Refused (λ n. refl) _ ((ltb 1 scale, 10) ∷ []) (as-rate (rrc_value scale rrc))

-- a correction that does not stop its satellite has both values
pub both-exact : (scale : ℕ) (prc rrc : ℤ) → scale ≤ 1 → stops_use prc rrc ≡ false
    → (says_distance (prc_mm scale prc) ≡ answers (exactly (prc *ℤ pos (step_of 20 320 scale))))
    × (says_rate (rrc_mm_s scale rrc) ≡ answers (exactly (rrc *ℤ pos (step_of 2 32 scale))))
both-exact scale prc rrc l e =
    let other = neither-lowest prc rrc e in (
      prc-says scale prc ∙ said ∙ ap answers (exact-other 15 20 320 scale prc other.0),
      rrc-says scale rrc ∙ said ∙ ap answers (exact-other 7 2 32 scale rrc other.1),
    )
  where
    said : {x : Reading} → in_order ((ltb 1 scale, 10) ∷ []) refuses (answers x) ≡ answers x
    said = order-answers refuses _ ((ltb 1 scale, 10) ∷ []) (le-ltb 1 scale l, tt)

pub udre-says : (s : State) (udre : ℕ)
    → says_limit (udre_limit s udre) ≡ in_order ((state_outside s, 5) ∷ (ltb 3 udre, 10) ∷ []) refuses (answers (udre_value s udre))
udre-says s udre = says-order says_limit limit.Refused (λ n. refl) _ ((state_outside s, 5) ∷ (ltb 3 udre, 10) ∷ []) (as-limit (udre_value s udre))

pub cn0-says : (code : ℕ) → says_strength (cn0_db_hz code) ≡ in_order ((ltb 31 code, 10) ∷ []) refuses (answers (cn0_value code))
cn0-says code = says-order says_strength strength.Refused (λ n. refl) _ ((ltb 31 code, 10) ∷ []) (as-strength (cn0_value code))

pub minutes-says : (code : ℕ) → says_time (minutes_of code) ≡ in_order ((ltb 15 code, 10) ∷ []) refuses (answers (5 * code))
minutes-says code = says-order says_time time.Refused (λ n. refl) _ ((ltb 15 code, 10) ∷ []) refl

pub z-says : (z : ℕ) → says_since_hour (z_tenths z) ≡ in_order ((ltb 8191 z, 5) ∷ (late z, 7) ∷ []) refuses (answers (6 * z))
z-says z = says-order says_since_hour since.Refused (λ n. refl) _ ((ltb 8191 z, 5) ∷ (late z, 7) ∷ []) refl

pub letter-says : (code : ℕ) → says_letter (letter_of code) ≡ in_order ((no_letter code, 11) ∷ []) refuses (answers (letter_value code))
letter-says code = says-order says_letter letter.Refused (λ n. refl) _ ((no_letter code, 11) ∷ []) refl
