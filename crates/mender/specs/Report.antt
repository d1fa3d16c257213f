-- What is printed of a step, in ASCII codes: a line for each byte that changed, or the offset of a record that is lost. Assumes nothing.
use Rattle.std.specs.Prelude.{ℕ, suc, ◌%◌, ◌^◌, cond, List, [], ◌∷◌, ◌++◌, ◌==◌}
use Rattle.printing.specs.Printing.{decimal}

-- A CHANGE: the offset of a byte, what it was and what it is
pub record Change : Type 0 where
  pub offset : ℕ
  pub old : ℕ
  pub new : ℕ

-- where the bytes from the offset `at` on and what came of them differ
unfoldable pub changes_from : ℕ → List ℕ → List ℕ → List Change
changes_from at [] ys = []
changes_from at (x ∷ xs) [] = []
changes_from at (x ∷ xs) (y ∷ ys) =
    let later = changes_from (suc at) xs ys in
    cond (x == y) later (record { offset = at; old = x; new = y } ∷ later)

-- `OFFSET OLD NEW`
unfoldable pub change_line : ℕ → ℕ → ℕ → List ℕ
change_line offset old new = decimal offset ++ ((32 ∷ decimal old) ++ ((32 ∷ decimal new) ++ (10 ∷ [])))

-- of one byte: how many changes it has, and what is printed
abbrev pub differs : ℕ → ℕ → ℕ
differs old new = cond (old == new) 0 1

abbrev pub byte_line : ℕ → ℕ → ℕ → List ℕ
byte_line offset old new = cond (old == new) [] (change_line offset old new)

-- a line each, offsets modulo 2^64
unfoldable pub change_lines : List Change → List ℕ
change_lines [] = []
change_lines (c ∷ cs) = change_line (c.offset % 2 ^ 64) c.old c.new ++ change_lines cs

-- `lost OFFSET`
unfoldable pub lost_line : ℕ → List ℕ
lost_line at = (108 ∷ 111 ∷ 115 ∷ 116 ∷ 32 ∷ decimal at) ++ (10 ∷ [])
