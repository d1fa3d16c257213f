-- Refusals 5 and 7: a value outside its widths, and a Z count past the hour. ONE definition each, for every call on a frame or a header.
-- Assumes nothing.
use Rattle.std.specs.Prelude.{Bool, false, not, ◌&&◌, ◌||◌, List, [], ◌∷◌, ℕ, ◌^◌, ltb, leb, eqb, drop}
use Rattle.bits.specs.Bits.{is_nonzero}
use Rattle.frame.specs.Header.{factors}
use Rattle.frame.specs.declared.State.{State}
use Rattle.frame.specs.declared.State.TheVariants.{Factor, Unmonitored, Down}
use Rattle.frame.specs.declared.Header.{Header}
use Rattle.frame.specs.declared.Carried.{Carried}
use Rattle.frame.specs.declared.Frame.{Frame}

-- one of a list has a property
abbrev pub any_of : {A : Type 0} → (A → Bool) → List A → Bool
any_of p [] = false
any_of p (x ∷ xs) = p x || any_of p xs

-- more than 24 bits
abbrev pub is_wide : ℕ → Bool
is_wide w = leb (2 ^ 24) w

-- a factor other than the six
unfoldable pub state_outside : State → Bool
state_outside (Factor f) = not (any_of (eqb f) factors)
state_outside Unmonitored = false
state_outside Down = false

-- type not 1 to 64, station over 10 bits, Z over 13, sequence over 3
unfoldable pub numbers_outside : ℕ → ℕ → ℕ → ℕ → Bool
numbers_outside kind station z sequence = not (leb 1 kind && leb kind 64) || ltb 1023 station || ltb 8191 z || ltb 7 sequence

-- REFUSAL 5 of a header
unfoldable pub header_outside : Header → Bool
header_outside h = numbers_outside h.kind h.station h.z h.sequence || state_outside h.state

-- a carried bit that is neither 0 nor 1
unfoldable pub pair_outside : Carried → Bool
pair_outside c = ltb 1 c.d29 || ltb 1 c.d30

-- REFUSAL 5 of a frame: its header, N over 31, a word over 24 bits, a word past N not zero, a carried bit not 0 or 1
unfoldable pub outside : Frame → Bool
outside f =
    header_outside f.header || ltb 31 f.n || any_of is_wide f.words || any_of is_nonzero (drop f.n f.words)
    || pair_outside f.carried

-- REFUSAL 7: the hour has 6000 steps of 0.6 s; over 8191 is 5, which every order asks first
abbrev pub late : ℕ → Bool
late z = leb 6000 z
