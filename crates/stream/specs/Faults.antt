-- The positions that a word ruled out, and how they are counted: by the remainder of that word, the first of the position that is not right.
-- d is the stream from two bits before a position. Assumes nothing.
use Rattle.std.specs.Prelude.{Bool, true, false, not, List, [], ◌∷◌, ℕ, zero, suc, ◌+◌, ◌-◌, ◌*◌, length}
use Rattle.bits.specs.Bits.{odd, val}
use Rattle.stream.specs.Standing.{word_at, size, frames_in}
use Rattle.stream.specs.Verdict.{Verdict, out, standing, undecided, verdict, Fault, headless, failed, fault_of}

-- WHAT IS COUNTED: an odd number of ones in the remainder, or an even number; a position without its preamble in neither
abbrev pub counts_odd : Fault → Bool
counts_odd headless = false
counts_odd (failed r) = odd r

abbrev pub counts_even : Fault → Bool
counts_even headless = false
counts_even (failed r) = not (odd r)

unfoldable pub odd_in : List Fault → ℕ
odd_in [] = 0
odd_in (f ∷ fs) = val (counts_odd f) + odd_in fs

unfoldable pub even_in : List Fault → ℕ
even_in [] = 0
even_in (f ∷ fs) = val (counts_even f) + even_in fs

-- THE FAULTS OF A STREAM, position after position, after `skip` bits, until n frames were passed: a position that a word ruled out has its fault; one
-- where a frame stands is passed whole, and the walk stops at the frame after the n-th; one whose next word has not come stops the walk, and after the
-- end has no fault.
abbrev pub faults_by : Verdict → Bool → ℕ → List Bool → List Fault → List Fault → List Fault
faults_by (out k) ended n d past next = fault_of k (word_at k d) ∷ next
faults_by standing ended zero d past next = []
faults_by standing ended (suc n) d past next = past
faults_by (undecided j) true n d past next = next
faults_by (undecided j) false n d past next = []

unfoldable pub faults : Bool → ℕ → ℕ → List Bool → List Fault
faults ended n skip [] = []
faults ended n zero (b ∷ d) =
    let past = faults ended (n - 1) (30 * size (b ∷ d) - 1) d in
    let next = faults ended n zero d in
    faults_by (verdict (b ∷ d)) ended n (b ∷ d) past next
faults ended n (suc skip) (b ∷ d) = faults ended n skip d

-- of a whole stream: after the end, with every frame passed
abbrev pub faults_in : List Bool → List Fault
faults_in s = faults true (length (frames_in s)) 0 s
