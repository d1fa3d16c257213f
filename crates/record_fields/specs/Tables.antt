-- A layout as tables: the widths of its fields, and the least and the most of each number. A row is twelve values. Assumes nothing.
use Rattle.std.specs.Prelude.{Bool, false, ◌||◌, List, [], ◌∷◌, ℕ, zero, suc, ◌+◌, ◌%◌, ◌^◌, ltb, get_or, drop}
use Rattle.record_fields.specs.declared.Rows.{Rows}
use Rattle.record_fields.specs.Packing.{field_in, empty_packer, pushed_all}

-- the first k of these values, 0 for each that is missing
abbrev pub padded : ℕ → List ℕ → List ℕ
padded zero vs = []
padded (suc k) [] = 0 ∷ padded k []
padded (suc k) (v ∷ vs) = v ∷ padded k vs

-- A ROW
abbrev pub row : List ℕ → List ℕ
row vs = padded 12 vs

-- THE CODES of a row, the low bits of each value by its width; a value that is missing counts as 0
abbrev pub codes_of : List ℕ → List ℕ → List ℕ
codes_of [] vs = []
codes_of (w ∷ ws) [] = 0 ∷ codes_of ws []
codes_of (w ∷ ws) (v ∷ vs) = v % 2 ^ w ∷ codes_of ws vs

-- the fields of these widths one after the other, from bit o on, as the code reads each
abbrev pub fields_in : List ℕ → List ℕ → ℕ → List ℕ
fields_in ds [] o = []
fields_in ds (w ∷ ws) o = field_in ds o w ∷ fields_in ds ws (o + w)

-- A ROW OUT OF RANGE: a value is under its least or over its most; a field past the table of the most has no range
abbrev pub row_out : List ℕ → List ℕ → List ℕ → Bool
row_out ls [] vs = false
row_out ls (m ∷ ms) vs = ltb (get_or vs 0 0) (get_or ls 0 0) || ltb m (get_or vs 0 0) || row_out (drop 1 ls) ms (drop 1 vs)

-- rows one after the other, and whether a number of them was outside its range
unfoldable pub no_rows : Rows
no_rows = record { packer = empty_packer; out = false }

unfoldable pub put_row : (ws ls ms vs : List ℕ) → Rows → Rows
put_row ws ls ms vs r = record { packer = pushed_all ws vs r.packer; out = r.out || row_out ls ms vs }

abbrev pub put_rows : (ws ls ms : List ℕ) → List (List ℕ) → Rows → Rows
put_rows ws ls ms [] r = r
put_rows ws ls ms (v ∷ vs) r = put_rows ws ls ms vs (put_row ws ls ms v r)
