-- The four tables of remainders that the code holds, one for each six data bits, and what they give for a word: entry v of a table is meant to be
-- what its six bits give alone where they are v, after carried bits 00. That all is as the six equations ask is a promise. Assumes nothing.
use Rattle.std.specs.Prelude.{List, [], ◌∷◌, ℕ, ◌*◌, ◌/◌, ◌%◌, ◌^◌, get_or}
use Rattle.std.specs.Int.Bits.{bit_xor}

-- d1 to d6
unfoldable pub first : List ℕ
first =
    0 ∷ 55 ∷ 47 ∷ 24 ∷ 28 ∷ 43 ∷ 51 ∷ 4 ∷ 59 ∷ 12 ∷ 20 ∷ 35 ∷ 39 ∷ 16 ∷ 8 ∷ 63
    ∷ 52 ∷ 3 ∷ 27 ∷ 44 ∷ 40 ∷ 31 ∷ 7 ∷ 48 ∷ 15 ∷ 56 ∷ 32 ∷ 23 ∷ 19 ∷ 36 ∷ 60 ∷ 11
    ∷ 42 ∷ 29 ∷ 5 ∷ 50 ∷ 54 ∷ 1 ∷ 25 ∷ 46 ∷ 17 ∷ 38 ∷ 62 ∷ 9 ∷ 13 ∷ 58 ∷ 34 ∷ 21
    ∷ 30 ∷ 41 ∷ 49 ∷ 6 ∷ 2 ∷ 53 ∷ 45 ∷ 26 ∷ 37 ∷ 18 ∷ 10 ∷ 61 ∷ 57 ∷ 14 ∷ 22 ∷ 33 ∷ []

-- d7 to d12
unfoldable pub second : List ℕ
second =
    0 ∷ 56 ∷ 49 ∷ 9 ∷ 35 ∷ 27 ∷ 18 ∷ 42 ∷ 7 ∷ 63 ∷ 54 ∷ 14 ∷ 36 ∷ 28 ∷ 21 ∷ 45
    ∷ 13 ∷ 53 ∷ 60 ∷ 4 ∷ 46 ∷ 22 ∷ 31 ∷ 39 ∷ 10 ∷ 50 ∷ 59 ∷ 3 ∷ 41 ∷ 17 ∷ 24 ∷ 32
    ∷ 26 ∷ 34 ∷ 43 ∷ 19 ∷ 57 ∷ 1 ∷ 8 ∷ 48 ∷ 29 ∷ 37 ∷ 44 ∷ 20 ∷ 62 ∷ 6 ∷ 15 ∷ 55
    ∷ 23 ∷ 47 ∷ 38 ∷ 30 ∷ 52 ∷ 12 ∷ 5 ∷ 61 ∷ 16 ∷ 40 ∷ 33 ∷ 25 ∷ 51 ∷ 11 ∷ 2 ∷ 58 ∷ []

-- d13 to d18
unfoldable pub third : List ℕ
third =
    0 ∷ 50 ∷ 38 ∷ 20 ∷ 14 ∷ 60 ∷ 40 ∷ 26 ∷ 31 ∷ 45 ∷ 57 ∷ 11 ∷ 17 ∷ 35 ∷ 55 ∷ 5
    ∷ 62 ∷ 12 ∷ 24 ∷ 42 ∷ 48 ∷ 2 ∷ 22 ∷ 36 ∷ 33 ∷ 19 ∷ 7 ∷ 53 ∷ 47 ∷ 29 ∷ 9 ∷ 59
    ∷ 61 ∷ 15 ∷ 27 ∷ 41 ∷ 51 ∷ 1 ∷ 21 ∷ 39 ∷ 34 ∷ 16 ∷ 4 ∷ 54 ∷ 44 ∷ 30 ∷ 10 ∷ 56
    ∷ 3 ∷ 49 ∷ 37 ∷ 23 ∷ 13 ∷ 63 ∷ 43 ∷ 25 ∷ 28 ∷ 46 ∷ 58 ∷ 8 ∷ 18 ∷ 32 ∷ 52 ∷ 6 ∷ []

-- d19 to d24
unfoldable pub fourth : List ℕ
fourth =
    0 ∷ 19 ∷ 37 ∷ 54 ∷ 11 ∷ 24 ∷ 46 ∷ 61 ∷ 22 ∷ 5 ∷ 51 ∷ 32 ∷ 29 ∷ 14 ∷ 56 ∷ 43
    ∷ 44 ∷ 63 ∷ 9 ∷ 26 ∷ 39 ∷ 52 ∷ 2 ∷ 17 ∷ 58 ∷ 41 ∷ 31 ∷ 12 ∷ 49 ∷ 34 ∷ 20 ∷ 7
    ∷ 25 ∷ 10 ∷ 60 ∷ 47 ∷ 18 ∷ 1 ∷ 55 ∷ 36 ∷ 15 ∷ 28 ∷ 42 ∷ 57 ∷ 4 ∷ 23 ∷ 33 ∷ 50
    ∷ 53 ∷ 38 ∷ 16 ∷ 3 ∷ 62 ∷ 45 ∷ 27 ∷ 8 ∷ 35 ∷ 48 ∷ 6 ∷ 21 ∷ 40 ∷ 59 ∷ 13 ∷ 30 ∷ []

-- the entries for the 24 data bits d, combined
abbrev pub entries_of : ℕ → ℕ
entries_of d =
    bit_xor (get_or first (d / 2 ^ 18 % 64) 0)
    (bit_xor (get_or second (d / 2 ^ 12 % 64) 0) (bit_xor (get_or third (d / 2 ^ 6 % 64) 0) (get_or fourth (d % 64) 0)))

-- what the carried bits c give alone, D29* the higher: a column of the equations each
abbrev pub columns_of : ℕ → ℕ
columns_of c = bit_xor (c / 2 % 2 * 0b101001) (c % 2 * 0b010110)

-- PARITY BY THE TABLES, D25 highest, of the data d after the carried bits c
abbrev pub table_parity : ℕ → ℕ → ℕ
table_parity c d = bit_xor (columns_of c) (entries_of d)
