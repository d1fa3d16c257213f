-- What the numbers of a record stand for: stop, no upper limit and not tracked are values of their own; and which letters the characters of a
-- text are. Assumes nothing.
use Rattle.std.specs.Prelude.{Bool, false, cond, ◌||◌, List, [], ◌∷◌, ℕ, suc, ◌+◌, ◌*◌, ◌-◌, ◌/◌, ◌^◌, eqb, ltb, ℤ, pos, negsuc, ◌*ℤ◌, get_or}
use Rattle.frame.specs.declared.State.{State}
use Rattle.frame.specs.declared.State.TheVariants.{Factor, Unmonitored, Down}

-- ---- PRC and RRC

-- an exact product in the step's unit, or stop: the satellite is not to be used
pub data Reading : Type 0 where
  exactly : ℤ → Reading
  stop : Reading

-- z is -2^h, the lowest number that h + 1 bits hold in two's complement
abbrev pub is_lowest : ℕ → ℤ → Bool
is_lowest h (pos n) = false
is_lowest h (negsuc n) = eqb (suc n) (2 ^ h)

-- the step of scale 0 or of scale 1
abbrev pub step_of : ℕ → ℕ → ℕ → ℕ
step_of small large scale = cond (eqb scale 0) small large

-- ONE DEFINITION OVER THE WIDTH: the lowest number of h + 1 bits means stop, any other number is multiplied by the step
unfoldable pub signed_value : ℕ → ℕ → ℕ → ℕ → ℤ → Reading
signed_value h small large scale z = cond (is_lowest h z) stop (exactly (z *ℤ pos (step_of small large scale)))

-- PRC: 16 bits, steps of 20 mm or 320 mm
abbrev pub prc_value : ℕ → ℤ → Reading
prc_value = signed_value 15 20 320

-- RRC: 8 bits, steps of 2 mm/s or 32 mm/s
abbrev pub rrc_value : ℕ → ℤ → Reading
rrc_value = signed_value 7 2 32

-- A CORRECTION STOPS ITS SATELLITE, whatever its scale: PRC -32768 or RRC -128
unfoldable pub stops_use : ℤ → ℤ → Bool
stops_use prc rrc = is_lowest 15 prc || is_lowest 7 rrc

-- ---- UDRE

-- an upper limit, or none: in mm; of types 41 and 42 in hundredths of a mm
pub data Bound : Type 0 where
  up_to : ℕ → Bound
  no_limit : Bound

-- a state's factor in hundredths: not monitored and not working use factor 1
unfoldable pub hundredths_of : State → ℕ
hundredths_of (Factor f) = f
hundredths_of Unmonitored = 100
hundredths_of Down = 100

-- the upper limits of codes 0, 1, 2 at factor 1, in mm
unfoldable pub limits : List ℕ
limits = 1000 ∷ 4000 ∷ 8000 ∷ []

-- the limit times the factor; code 3 has none
unfoldable pub udre_value : State → ℕ → Bound
udre_value s udre = cond (eqb udre 3) no_limit (up_to (get_or limits udre 0 * hundredths_of s / 100))

-- ---- C/N0

-- a strength in dBHz, or not tracked
pub data Signal : Type 0 where
  db_hz : ℕ → Signal
  not_tracked : Signal

-- not tracked for code 0, for any other 24 more than the code
abbrev pub cn0_value : ℕ → Signal
cn0_value code = cond (eqb code 0) not_tracked (db_hz (24 + code))

-- ---- characters, of types 16 and 36

-- no character: 0, and 192 to 255
abbrev pub no_letter : ℕ → Bool
no_letter code = ltb code 1 || ltb 191 code

-- the number in Unicode: ASCII is itself; 128 to 191, annex G's Russian letters, without yo, stand in the same order from U+0410 on
abbrev pub letter_value : ℕ → ℕ
letter_value code = cond (ltb code 128) code (0x0410 + (code - 128))
