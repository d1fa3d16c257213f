-- What a layout says of its entries, as data: the widths of the fields, what their codes mean, the codes of an entry. A frame is read
-- and made by these definitions alone. Assumes nothing.
use Rattle.std.specs.Prelude.{Bool, List, [], ◌∷◌, ◌++◌, map, ℕ, ◌+◌, ◌*◌}
use Rattle.bits.specs.Fields.{fields_at, span}
use Rattle.bits.specs.Rows.{data_bits, packed_rows, words_in}
use Rattle.frame.specs.Frames.{framed, data_words}
use Rattle.frame.specs.declared.Header.{Header}
use Rattle.frame.specs.declared.Frame.{Frame}

pub record Coding (A : Type 0) : Type 0 where
  pub widths : List ℕ
  pub meant : List ℕ → A
  pub codes : A → List ℕ

-- the data bits of a frame, those of its N words
unfoldable pub frame_bits : Frame → List Bool
frame_bits f = data_bits (data_words f)

-- entry number i: entries follow one another without gaps
abbrev pub entry_in : {A : Type 0} → Coding A → ℕ → List Bool → A
entry_in k i bs = k.meant (fields_at k.widths (i * span k.widths) bs)

-- entry number i of a headed list, whose entries follow a head of o bits
abbrev pub entry_after : {A : Type 0} → ℕ → Coding A → ℕ → List Bool → A
entry_after o k i bs = k.meant (fields_at k.widths (o + i * span k.widths) bs)

-- the rows of codes of entries, and their bits
abbrev pub rows_of : {A : Type 0} → Coding A → List A → List (List ℕ)
rows_of k es = map k.codes es

unfoldable pub entry_bits : {A : Type 0} → Coding A → List A → List Bool
entry_bits k es = packed_rows k.widths (rows_of k es)

-- the frame of these entries, its last word filled by a pattern; N follows from the entries
unfoldable pub frame_with : {A : Type 0} → ℕ → Coding A → Header → List A → Frame
frame_with pattern k h es = framed h (words_in pattern (entry_bits k es))

-- the frame of a headed list: the bits of the head, those of the entries, and the fill
unfoldable pub frame_after : {A : Type 0} → List Bool → ℕ → Coding A → Header → List A → Frame
frame_after front pattern k h es = framed h (words_in pattern (front ++ entry_bits k es))

-- each entry of a list
abbrev pub Each : {A : Type 0} → (A → Type 0) → List A → Type 0
Each P [] = Unit {0}
Each P (e ∷ es) = P e × Each P es
