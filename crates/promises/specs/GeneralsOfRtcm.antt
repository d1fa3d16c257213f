-- DEMAND 2, types 41 and 42: which systems they have, how many words their satellites take, and what their numbers mean. Assumes nothing.
use Rattle.std.specs.Prelude.{◌≡◌, false, [], ◌∷◌, ◌++◌, map, ◌↔◌, ◌⊎◌, ℕ, ◌*◌, ◌≤◌, ℤ, pos, neg_ℤ, nat_abs, ◌*ℤ◌}
use Rattle.answer.specs.Order.{answers}
use Rattle.frame.specs.Widths.{state_outside}
use Rattle.frame.specs.declared.Frame.{Frame}
use Rattle.frame.specs.declared.State.{State}
use Rattle.record_stages.specs.Stages.{says_count}
use Rattle.record_generals.specs.Generals.{other_system, head_in, count_generals}
use Rattle.record_generals.specs.GeneralRounds.{general_words}
use Rattle.record_generals.specs.GeneralNulls.{read_general_null, says_general_null_read}
use Rattle.record_values.specs.Values.{exactly, stop, up_to, no_limit, hundredths_of}
use Rattle.record_values.specs.Answer.{says_distance}
use Rattle.record_values.specs.GeneralValues.{delayed, unusable}
use Rattle.record_values.specs.GeneralAnswer.{general_prc_mm, delay_mm, general_udre, use_seconds, says_delay, says_general_limit, says_period}

pub record GeneralsOfRtcm : Type 0 where
  -- GPS, GLONASS, QZSS and BDS, and no other system
  pub systems : (s : ℕ) → (other_system s ≡ false) ↔ ((s ≡ 1) ⊎ ((s ≡ 2) ⊎ ((s ≡ 5) ⊎ (s ≡ 6))))
  -- N is the words that 13 bits and 32 or 44 bits a satellite take; the null frame has one
  pub n : (f : Frame) (c : ℕ) → says_count (count_generals f) ≡ answers c → f.n ≡ general_words (head_in f) c
  pub null-n : (f : Frame) (n s : ℕ) → says_general_null_read (read_general_null f) ≡ answers (n, s) → (f.n ≡ n) × (n ≡ 1)
  -- PRC in steps of 20 mm: -8192 means stop and no other number does; any other is exact
  pub prc-stops : says_distance (general_prc_mm (neg_ℤ (pos 8192))) ≡ answers stop
  pub prc-only : (z : ℤ) → says_distance (general_prc_mm z) ≡ answers stop → z ≡ neg_ℤ (pos 8192)
  pub prc : (z v : ℤ) → says_distance (general_prc_mm z) ≡ answers (exactly v) → (v ≡ z *ℤ pos 20) × (nat_abs v ≤ 8191 * 20)
  -- the ionosphere delay in steps of 20 mm; 4095 is not to be used
  pub delay : (code : ℕ) → code ≤ 4094 → says_delay (delay_mm code) ≡ answers (delayed (20 * code))
  pub delay-unusable : says_delay (delay_mm 4095) ≡ answers unusable
  -- TABLE 50: the limits of codes 0 to 14 in mm, times the hundredths of the station's factor; code 15 has none
  pub udre : (s : State) → state_outside s ≡ false
      → map (λ code. says_general_limit (general_udre s code)) (0 ∷ 1 ∷ 2 ∷ 3 ∷ 4 ∷ 5 ∷ 6 ∷ 7 ∷ 8 ∷ 9 ∷ 10 ∷ 11 ∷ 12 ∷ 13 ∷ 14 ∷ 15 ∷ [])
      ≡ map (λ mm. answers (up_to (mm * hundredths_of s)))
      (40 ∷ 62 ∷ 96 ∷ 149 ∷ 231 ∷ 358 ∷ 555 ∷ 860 ∷ 1333 ∷ 2066 ∷ 3202 ∷ 4963 ∷ 7692 ∷ 11923 ∷ 18480 ∷ []) ++ (answers no_limit ∷ [])
  -- TABLE 49: the longest use
  pub seconds : map (λ code. says_period (use_seconds code)) (0 ∷ 1 ∷ 2 ∷ 3 ∷ []) ≡ map answers (15 ∷ 30 ∷ 60 ∷ 120 ∷ [])
