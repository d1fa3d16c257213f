-- Five bytes as one number, the first lowest, and their thirty line bits as one number, the first sent highest. Assumes nothing.
use Rattle.std.specs.Prelude.{ℕ, zero, suc, ◌*◌, ◌/◌, ◌%◌, ◌^◌, Bool, true, ◌&&◌, List, [], ◌∷◌, slice_index}
use Rattle.bits.specs.Bits.{number}
use Rattle.line.specs.Line.{is_data, six}
use Rattle.reader.specs.Cells.{put_five}

-- a byte of five, the first for 0
abbrev pub byte_at : ℕ → ℕ → ℕ
byte_at k n = n / 2 ^ (8 * k) % 256

abbrev pub five_bytes : ℕ → List ℕ
five_bytes n = byte_at 0 n ∷ byte_at 1 n ∷ byte_at 2 n ∷ byte_at 3 n ∷ byte_at 4 n ∷ []

-- so many bytes from a place on
abbrev pub bytes_from : ℕ → List ℕ → ℕ → List ℕ
bytes_from zero bytes at = []
bytes_from (suc k) bytes at = slice_index bytes at ∷ bytes_from k bytes (suc at)

-- each carries line bits; and the six that each carries, as numbers
abbrev pub all_data : List ℕ → Bool
all_data [] = true
all_data (b ∷ bs) = is_data b && all_data bs

abbrev pub sixes_in : List ℕ → List ℕ
sixes_in [] = []
sixes_in (b ∷ bs) = number (six b) ∷ sixes_in bs

-- six of thirty bits, the last for 0
abbrev pub six_at : ℕ → ℕ → ℕ
six_at k t = t / 2 ^ (6 * k) % 64

abbrev pub sixes_of : ℕ → List ℕ
sixes_of t = six_at 4 t ∷ six_at 3 t ∷ six_at 2 t ∷ six_at 1 t ∷ six_at 0 t ∷ []

-- thirty bits put in: five times six
abbrev pub put_thirty : List ℕ → ℕ → ℕ → List ℕ
put_thirty cells end t = put_five cells end (six_at 4 t) (six_at 3 t) (six_at 2 t) (six_at 1 t) (six_at 0 t)
