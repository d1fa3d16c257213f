-- Data words as one list of bits, 24 a word, first sent first; rows of fields in it, one after the other; the fill to a word's end.
-- Assumes nothing.
use Rattle.std.specs.Prelude.{◌≡◌, Bool, List, [], ◌∷◌, ◌++◌, ℕ, zero, suc, ◌+◌, ◌-◌, ◌/◌, ◌%◌, length, take, drop}
use Rattle.bits.specs.Bits.{bits, number}
use Rattle.bits.specs.Fields.{fields_at, packed, span, Fit}

-- ---- words and bits

-- the data bits of words
unfoldable pub data_bits : List ℕ → List Bool
data_bits [] = []
data_bits (w ∷ ws) = bits 24 w ++ data_bits ws

-- n words, cut from bits
unfoldable pub cut_words : ℕ → List Bool → List ℕ
cut_words zero bs = []
cut_words (suc n) bs = number (take 24 bs) ∷ cut_words n (drop 24 bs)

-- ---- rows of a layout

-- rows of values, each row put in these widths
abbrev pub packed_rows : List ℕ → List (List ℕ) → List Bool
packed_rows ws [] = []
packed_rows ws (r ∷ rs) = packed ws r ++ packed_rows ws rs

-- n rows from bit o on
abbrev pub rows_at : List ℕ → ℕ → ℕ → List Bool → List (List ℕ)
rows_at ws zero o bs = []
rows_at ws (suc n) o bs = fields_at ws o bs ∷ rows_at ws n (o + span ws) bs

-- each row fits the widths
abbrev pub AllFit : List ℕ → List (List ℕ) → Type 0
AllFit ws [] = Unit {0}
AllFit ws (r ∷ rs) = Fit ws r × AllFit ws rs

-- ---- fill

-- the first k bits of a word's pattern, k at most 24
unfoldable pub fill_of : ℕ → ℕ → List Bool
fill_of pattern k = take k (bits 24 pattern)

-- bits with the fill that ends their last word
unfoldable pub filled : ℕ → List Bool → List Bool
filled pattern bs = bs ++ fill_of pattern ((24 - length bs % 24) % 24)

-- the words that these bits take, filled
unfoldable pub words_in : ℕ → List Bool → List ℕ
words_in pattern bs = cut_words ((length bs + 23) / 24) (filled pattern bs)

-- what comes after the first u bits is the fill and nothing else
abbrev pub FillAfter : ℕ → ℕ → List Bool → Type 0
FillAfter pattern u bs = drop u bs ≡ fill_of pattern (length (drop u bs))
