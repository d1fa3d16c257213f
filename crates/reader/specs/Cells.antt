-- The buffer: 1280 bits in forty cells, the highest bit of a cell first. A reader holds the n bits before bit `end`. Assumes nothing.
use Rattle.std.specs.Prelude.{ℕ, ◌+◌, ◌-◌, ◌*◌, ◌/◌, ◌%◌, ◌^◌, Bool, cond, List, [], ◌∷◌, ◌++◌, take, drop, nat_le, slice_index, slice_set}
use Rattle.bits.specs.Bits.{bits}

-- the bits of cells
unfoldable pub cell_bits : List ℕ → List Bool
cell_bits [] = []
cell_bits (c ∷ cs) = bits 32 c ++ cell_bits cs

-- the n bits before bit `end`
unfoldable pub held_bits : List ℕ → ℕ → ℕ → List Bool
held_bits cells end n = drop (end - n) (take end (cell_bits cells))

-- a cell and the one after it as one number; past the last there is 0
abbrev pub pair_at : List ℕ → ℕ → ℕ
pair_at cells j = slice_index cells j % 2 ^ 32 * 2 ^ 32 + slice_index cells (j + 1) % 2 ^ 32

-- the same with six bits put in at bit `off` of the first: the bits before it, the six, zeros
abbrev pub put_pair : ℕ → ℕ → ℕ → ℕ
put_pair c off six_bits = (c % 2 ^ 32 / 2 ^ (32 - off) * 64 + six_bits) * 2 ^ (58 - off) % 2 ^ 64

-- six bits put in at bit `end`
unfoldable pub put_cells : List ℕ → ℕ → ℕ → List ℕ
put_cells cells end six_bits =
    let both = put_pair (slice_index cells (end / 32)) (end % 32) six_bits in
    slice_set (slice_set cells (end / 32) (both / 2 ^ 32)) (end / 32 + 1) (both % 2 ^ 32)

-- all cells moved down by k; the last k stay as they are
unfoldable pub down_cells : List ℕ → ℕ → List ℕ
down_cells cells k = drop k cells ++ drop (40 - k) cells

-- room for six bits: where the end of the buffer is near, the cells before the bits held go
unfoldable pub room_end : ℕ → ℕ → ℕ
room_end end held = cond (nat_le end 1216) end (end - 32 * ((end - held) / 32))

unfoldable pub room_cells : List ℕ → ℕ → ℕ → List ℕ
room_cells cells end held = cond (nat_le end 1216) cells (down_cells cells ((end - held) / 32))

-- SIX BITS PUSHED
unfoldable pub pushed_cells : List ℕ → ℕ → ℕ → ℕ → List ℕ
pushed_cells cells end held six_bits = put_cells (room_cells cells end held) (room_end end held) six_bits

-- five times six bits put in
unfoldable pub put_five : List ℕ → ℕ → ℕ → ℕ → ℕ → ℕ → ℕ → List ℕ
put_five cells end a b c d e = put_cells (put_cells (put_cells (put_cells (put_cells cells end a) (end + 6) b) (end + 12) c) (end + 18) d) (end + 24) e
