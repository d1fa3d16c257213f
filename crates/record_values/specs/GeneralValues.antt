-- What the numbers of types 41 and 42 stand for: PRC and delay in mm, the table of UDRE, the longest use. Assumes nothing.
use Rattle.std.specs.Prelude.{Bool, cond, not, List, [], ◌∷◌, ℕ, ◌*◌, ◌^◌, eqb, ltb, ℤ, get_or}
use Rattle.std.specs.Int.Signed.{mag}
use Rattle.frame.specs.declared.State.{State}
use Rattle.record_values.specs.Values.{Reading, signed_value, Bound, up_to, no_limit, hundredths_of}

-- PRC: 14 bits, a step of 20 mm; its lowest number, -8192, means stop
abbrev pub general_prc_value : ℤ → Reading
general_prc_value = signed_value 13 20 20 0

-- a number that 14 bits don't hold
abbrev pub outside14 : ℤ → Bool
outside14 z = not (ltb (mag z) (2 ^ 13))

-- a delay in mm, or that it is not to be used
pub data Delayed : Type 0 where
  delayed : ℕ → Delayed
  unusable : Delayed

-- a step of 20 mm; 4095 means that the delay is not to be used
abbrev pub delay_value : ℕ → Delayed
delay_value delay = cond (eqb delay 4095) unusable (delayed (20 * delay))

-- TABLE 50: the upper limits of UDRE codes 0 to 14 at factor 1, in mm
unfoldable pub general_limits : List ℕ
general_limits = 40 ∷ 62 ∷ 96 ∷ 149 ∷ 231 ∷ 358 ∷ 555 ∷ 860 ∷ 1333 ∷ 2066 ∷ 3202 ∷ 4963 ∷ 7692 ∷ 11923 ∷ 18480 ∷ []

-- the limit times the factor's hundredths, in hundredths of a mm; code 15 has none
unfoldable pub general_udre_value : State → ℕ → Bound
general_udre_value s udre = cond (eqb udre 15) no_limit (up_to (get_or general_limits udre 0 * hundredths_of s))

-- TABLE 49: the longest use of codes 0 to 3, in seconds
unfoldable pub seconds_of_use : List ℕ
seconds_of_use = 15 ∷ 30 ∷ 60 ∷ 120 ∷ []
