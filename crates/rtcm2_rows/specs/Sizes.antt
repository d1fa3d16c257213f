-- Numbers one after the other as bytes, each of its own size, low byte first. Assumes nothing.
use Rattle.std.specs.Prelude.{List, [], ◌∷◌, ◌++◌, ℕ, take, drop}
use Rattle.rtcm2_state.specs.Numbers.{low_bytes, number_in}

-- the numbers that bytes say
unfoldable pub sized_in : List ℕ → List ℕ → List ℕ
sized_in [] bs = []
sized_in (k ∷ ks) bs = number_in (take k bs) ∷ sized_in ks (drop k bs)

-- the bytes of numbers; one that is missing counts as 0
unfoldable pub sized_bytes : List ℕ → List ℕ → List ℕ
sized_bytes [] ns = []
sized_bytes (k ∷ ks) [] = low_bytes k 0 ++ sized_bytes ks []
sized_bytes (k ∷ ks) (n ∷ ns) = low_bytes k n ++ sized_bytes ks ns
