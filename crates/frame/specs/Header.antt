-- The header is the data of words 1 and 2: preamble, type and station in the first, Z count, sequence, N and health in the second (RULES 4).
-- A word's data is a list of 24 bits, d1 first. Assumes nothing.
use Rattle.std.specs.Prelude.{Bool, cond, List, [], ◌∷◌, ℕ, zero, suc, ◌%◌, eqb, ltb, get_or}
use Rattle.bits.specs.Fields.{field_at, packed}
use Rattle.frame.specs.declared.State.{State}
use Rattle.frame.specs.declared.State.TheVariants.{Factor, Unmonitored, Down}
use Rattle.frame.specs.declared.Header.{Header}

-- ---- the station's state

-- the UDRE factors of health codes 0 to 5, in hundredths
unfoldable pub factors : List ℕ
factors = 100 ∷ 75 ∷ 50 ∷ 30 ∷ 20 ∷ 10 ∷ []

-- the place of a number in a list, or the list's length
abbrev pub place_in : ℕ → List ℕ → ℕ
place_in x [] = zero
place_in x (y ∷ ys) = cond (eqb x y) zero (suc (place_in x ys))

-- health code to state: 6 is not monitored, 7 not working
unfoldable pub state_of : ℕ → State
state_of c = cond (ltb c 6) (Factor (get_or factors c 0)) (cond (eqb c 6) Unmonitored Down)

-- state to health code
unfoldable pub code_of : State → ℕ
code_of (Factor f) = place_in f factors
code_of Unmonitored = 6
code_of Down = 7

-- ---- from words to header

abbrev pub preamble : ℕ
preamble = 0b01100110

-- word 1 begins with the preamble
unfoldable pub preambled : List Bool → Bool
preambled first = eqb (field_at 0 8 first) preamble

-- type code to type number: 0 means 64
abbrev pub kind_of : ℕ → ℕ
kind_of zero = 64
kind_of (suc c) = suc c

-- N, in word 2
unfoldable pub n_of : List Bool → ℕ
n_of second = field_at 16 5 second

-- a header from the data bits of words 1 and 2
unfoldable pub header_of : List Bool → List Bool → Header
header_of first second = record {
  kind = kind_of (field_at 8 6 first);
  station = field_at 14 10 first;
  z = field_at 0 13 second;
  sequence = field_at 13 3 second;
  state = state_of (field_at 21 3 second);
}

-- ---- from header to words

-- word 1: preamble, type, station
unfoldable pub first_word : Header → List Bool
first_word h = packed (8 ∷ 6 ∷ 10 ∷ []) (preamble ∷ h.kind % 64 ∷ h.station ∷ [])

-- word 2: Z count, sequence, N, health
unfoldable pub second_word : Header → ℕ → List Bool
second_word h n = packed (13 ∷ 3 ∷ 5 ∷ 3 ∷ []) (h.z ∷ h.sequence ∷ n ∷ code_of h.state ∷ [])
