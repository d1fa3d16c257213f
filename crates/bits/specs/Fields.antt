-- Fields in a list of bits. A layout is a list of widths: its fields follow one another, so an offset is a sum and is never written down.
-- Assumes nothing.
use Rattle.std.specs.Prelude.{Bool, List, [], ◌∷◌, ◌++◌, ℕ, ◌+◌, ◌^◌, ◌<◌, length, take, drop, replicate}
use Rattle.bits.specs.Bits.{bits, number}

-- the number in the w bits from bit o on
abbrev pub field_at : ℕ → ℕ → List Bool → ℕ
field_at o w bs = number (take w (drop o bs))

-- fields of these widths one after the other, from bit o on
abbrev pub fields_at : List ℕ → ℕ → List Bool → List ℕ
fields_at [] o bs = []
fields_at (w ∷ ws) o bs = field_at o w bs ∷ fields_at ws (o + w) bs

-- values put one after the other, each in its width; a value that is missing counts as 0
abbrev pub packed : List ℕ → List ℕ → List Bool
packed [] vs = []
packed (w ∷ ws) [] = bits w 0 ++ packed ws []
packed (w ∷ ws) (v ∷ vs) = bits w v ++ packed ws vs

-- how many bits a layout takes
abbrev pub span : List ℕ → ℕ
span [] = 0
span (w ∷ ws) = w + span ws

-- there are as many values as widths, and each is below two to its width
abbrev pub Fit : List ℕ → List ℕ → Type 0
Fit [] [] = Unit {0}
Fit [] (v ∷ vs) = ⊥
Fit (w ∷ ws) [] = ⊥
Fit (w ∷ ws) (v ∷ vs) = (v < 2 ^ w) × Fit ws vs

-- the layout of k bytes
abbrev pub octets : ℕ → List ℕ
octets k = replicate k 8

-- each of these is a byte
abbrev pub AreBytes : List ℕ → Type 0
AreBytes bs = Fit (octets (length bs)) bs
