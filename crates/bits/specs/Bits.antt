-- Lists of bits, first sent first, and the numbers that they write, highest bit first. Assumes nothing.
use Rattle.std.specs.Prelude.{Bool, true, false, not, List, [], ◌∷◌, ℕ, zero, suc, ◌+◌, ◌*◌, ◌/◌, ◌%◌, ◌^◌, length}

infixl 40 ◌⊻◌
infixl 40 ◌⊕◌
-- exactly one of the two
abbrev pub ◌⊻◌ : Bool → Bool → Bool
true ⊻ b = not b
false ⊻ b = b

-- bit by bit; what the shorter list lacks counts as false
abbrev pub ◌⊕◌ : List Bool → List Bool → List Bool
[] ⊕ bs = bs
(a ∷ xs) ⊕ [] = a ∷ xs
(a ∷ xs) ⊕ (b ∷ bs) = (a ⊻ b) ∷ (xs ⊕ bs)

-- an odd number of these are true
abbrev pub odd : List Bool → Bool
odd [] = false
odd (b ∷ bs) = b ⊻ odd bs

-- a bit as a number
abbrev pub val : Bool → ℕ
val true = 1
val false = 0

-- how many are true
abbrev pub weight : List Bool → ℕ
weight [] = 0
weight (b ∷ bs) = val b + weight bs

-- in how many places two lists differ
abbrev pub differ : List Bool → List Bool → ℕ
differ v w = weight (v ⊕ w)

-- a number other than 0; of a bit held as a number, that it is 1
abbrev pub is_nonzero : ℕ → Bool
is_nonzero zero = false
is_nonzero (suc n) = true

abbrev pub is_odd : ℕ → Bool
is_odd n = is_nonzero (n % 2)

-- the k lowest bits of n, highest first
unfoldable pub bits : ℕ → ℕ → List Bool
bits zero n = []
bits (suc k) n = is_odd (n / 2 ^ k) ∷ bits k n

-- the number that a list writes, highest bit first
unfoldable pub number : List Bool → ℕ
number [] = 0
number (b ∷ bs) = val b * 2 ^ length bs + number bs
