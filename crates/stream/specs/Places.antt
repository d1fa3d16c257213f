-- How frames lie in a stream: where one stands, which covers a bit, frames apart from each other, and a frame that was damaged. Assumes nothing.
use Rattle.std.specs.Prelude.{◌≡◌, Bool, ◌⊎◌, ℕ, ◌+◌, ◌*◌, ◌≤◌, ◌<◌, length, drop}
use mathlib.Core.List.{List, [], ◌∷◌, Memᴰ}
use Rattle.bits.specs.Bits.{differ}
use Rattle.stream.specs.Standing.{word_at, size, Stands, Placed, placed, end_of}

-- h stands in d, the stream from two bits before position p
pub record StandsIn (p : ℕ) (d : List Bool) (h : Placed) : Type 0 where
  pub off : ℕ
  pub is : h ≡ placed (p + off) (drop off d)
  pub stood : Stands (drop off d)

-- a frame of the list begins before position q and has its bit
pub record Covers (q : ℕ) (l : List Placed) : Type 0 where
  pub by : Placed
  pub there : Memᴰ by l
  pub before : by.at < q
  pub beyond : q < end_of by

-- a frame is in the list, or a frame of the list covers its first bit
abbrev pub FoundOrCovered : Placed → List Placed → Type 0
FoundOrCovered h l = Memᴰ h l ⊎ Covers h.at l

-- frames one after the other from position p on, none sharing a bit with another: so each is there once
abbrev pub Apart : ℕ → List Placed → Type 0
Apart p [] = Unit {0}
Apart p (h ∷ l) = (p ≤ h.at) × Apart (end_of h) l

-- word k is the first in which the two differ, counted with the two bits before it
pub record FirstDamaged (k : ℕ) (g g' : List Bool) : Type 0 where
  pub before : (j : ℕ) → j < k → word_at j g' ≡ word_at j g
  pub here : word_at k g' ≡ word_at k g → ⊥

-- DAMAGE: g is a frame that stands, from the two bits before it to its last bit; g' is what came of it, bits turned over, none lost or added;
-- and the first damaged word has at most three turned bits
pub record Damaged (g g' : List Bool) : Type 0 where
  pub stood : Stands g
  pub alone : length g ≡ 2 + 30 * size g
  pub same : length g' ≡ length g
  pub turned : g' ≡ g → ⊥
  pub few : (k : ℕ) → FirstDamaged k g g' → differ (word_at k g) (word_at k g') ≤ 3
