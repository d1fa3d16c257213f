-- Words of k bytes each, highest bits first: what every form of record shares. Assumes nothing.
use Rattle.std.specs.Prelude.{List, [], ◌∷◌, ◌++◌, ℕ, zero, suc, length, take, drop}
use Rattle.bits.specs.Bits.{bits, number}
use Rattle.bits.specs.Fields.{fields_at, packed, span, octets}

-- the k bytes of a word
unfoldable pub bytes_of : ℕ → ℕ → List ℕ
bytes_of k w = fields_at (octets k) 0 (bits (span (octets k)) w)

-- the word that bytes write
unfoldable pub word_in : List ℕ → ℕ
word_in bs = number (packed (octets (length bs)) bs)

-- words one after the other, k bytes each
unfoldable pub written : ℕ → List ℕ → List ℕ
written k [] = []
written k (w ∷ ws) = bytes_of k w ++ written k ws

-- the first n words of k bytes each
unfoldable pub words_from : ℕ → ℕ → List ℕ → List ℕ
words_from k zero bs = []
words_from k (suc n) bs = word_in (take k bs) ∷ words_from k n (drop k bs)
