-- The hunt over the bits that a buffer holds, and how the positions that a word ruled out are counted. Assumes nothing.
use Rattle.std.specs.Prelude.{◌≡◌, ℕ, zero, suc, ◌+◌, ◌*◌, ◌/◌, ◌%◌, ◌^◌, ◌<◌, ◌≤◌, Bool, true, false, cond, not, List, [], ◌∷◌, length, take, drop, ◌==◌, ◌≢◌, slice_index, slice_set, Option, Some, None, Result, Ok, Err}
use Rattle.bits.specs.Bits.{odd, bits, number}
use Rattle.word.specs.Word.{data_of, passes}
use Rattle.frame.specs.Header.{preambled}
use Rattle.stream.specs.Standing.{right}
use Rattle.stream.specs.Verdict.{Fault, headless, failed, fault_of, Hunted, hunt}
use Rattle.reader.specs.Cells.{cell_bits, held_bits}
use Rattle.reader.specs.declared.Tally.{Tally}
use Rattle.reader.specs.declared.hunt.Halt.{Halt}

-- no position counted
abbrev pub fresh : Tally
fresh = record { odd = 0; even = 0 }

-- one position more: by an odd number of ones in the remainder, or an even number
abbrev pub counted_as : Tally → Bool → Tally
counted_as t true = record { odd = (t.odd + 1) % 2 ^ 32; even = t.even }
counted_as t false = record { odd = t.odd; even = (t.even + 1) % 2 ^ 32 }

-- by the fault of its word: a position without its preamble is not counted
abbrev pub counted_by : Tally → Fault → Tally
counted_by t headless = t
counted_by t (failed r) = counted_as t (odd r)

-- and position after position
unfoldable pub tallied : Tally → List Fault → Tally
tallied t [] = t
tallied t (f ∷ fs) = tallied (counted_by t f) fs

-- a first word without the preamble
abbrev pub headless_at : ℕ → List Bool → Bool
headless_at zero w = not (preambled (data_of w))
headless_at (suc k) w = false

-- what a look at a word says: right, or the counters with its position
abbrev pub looked_at : ℕ → List Bool → Tally → Result (Unit {0}) Tally
looked_at k w t = cond (right k w) (Ok tt) (Err (counted_by t (fault_of k w)))

-- where a hunt that begins with the counters t stops, by the number of bits left
unfoldable pub halt_of : Tally → Hunted → Halt
halt_of t h = record { left = length h.rest; words = h.words; found = h.found; tally = tallied t h.faults }

unfoldable pub hunt_of : List ℕ → ℕ → ℕ → ℕ → Bool → Tally → Halt
hunt_of cells end held words ended t = halt_of t (hunt ended words (held_bits cells end held))

-- where a glance says that a hunt which has not ended stops, it does
abbrev pub GlancedAt : List ℕ → ℕ → ℕ → ℕ → Tally → Option Halt → Type 0
GlancedAt cells end held words t (Some halt) = (halt ≡ hunt_of cells end held words false t) × (halt.left ≤ held)
GlancedAt cells end held words t None = Unit {0}

-- the window at bit x of the buffer passes; so do k words from a bit on
abbrev pub passes_at : List ℕ → ℕ → Bool
passes_at cells x = passes (bits 32 (number (take 32 (drop x (cell_bits cells)))))

abbrev pub Passing : List ℕ → ℕ → ℕ → Type 0
Passing cells bit k = (j : ℕ) → j < k → passes_at cells (bit + 30 * j) ≡ true

-- WINDOWS REMEMBERED, the bit of one that failed for each of the thirty phases: those of its phase before it, from `bit` on, have come and pass
abbrev pub Remembered : List ℕ → ℕ → ℕ → List ℕ → Type 0
Remembered cells end bit fails = (x : ℕ) → bit ≤ x → x < slice_index fails (x % 30) → (x + 32 ≤ end) × (passes_at cells x ≡ true)

-- with word k of the candidate at a bit: not where it is the first word, nor for the candidate that a hunt began with, whose words before were not seen
unfoldable pub remembered_by : List ℕ → Bool → ℕ → ℕ → List ℕ
remembered_by fails began bit k = cond began fails (cond (k == 0) fails (slice_set fails (bit % 30) (bit + 30 * k)))

-- of two cells as one number: at bit o and the bits after it, z in all, no nine bits are D30* and D1 to D8 of a preamble, as it is or turned over
abbrev pub Headless : ℕ → ℕ → ℕ → Type 0
Headless n o z = (s : ℕ) → s + o ≤ 54 → 55 ≤ s + o + z → (n / 2 ^ s % 512 ≢ 102) × (n / 2 ^ s % 512 ≢ 409)
