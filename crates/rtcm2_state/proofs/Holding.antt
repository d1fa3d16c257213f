-- A byte that needs no hunt leaves the state that the reader's definition says: six numbers are set, and all others stay. Assumes nothing.
use mathlib.Core.Path.{◌≡◌, refl, sym, ap, ap₂, subst, ◌∙◌}
use mathlib.Core.Bool.{Bool, true, false}
use mathlib.Core.List.{List, [], ◌∷◌, ◌++◌}
use Prim.Native.Nat.{ℕ, zero, suc, ◌+◌, ◌*◌, ◌/◌, ◌%◌, ◌^◌, ◌≤◌, ◌<◌}
use native.Mathlib.Omega.{arith}
use lib.ListN.{length, take, drop, get_or, set, length-set}
use lib.Seq.{sets, drop-drop}
use Rattle.bits.specs.Bits.{number, val}
use Rattle.bits.specs.Fields.{AreBytes}
use Rattle.line.specs.Line.{six}
use Rattle.reader.specs.Cells.{put_pair, put_cells}
use Rattle.reader.specs.Reading.{step_cells, step_to, stepped_by}
use Rattle.reader.specs.declared.Candidate.{Candidate}
use Rattle.reader.specs.declared.Reader.{Reader}
use Rattle.reader.proofs.Accepted.{Accepted}
use Rattle.reader.proofs.Pushing.{push-in}
use Rattle.rtcm2_state.specs.Numbers.{low_bytes, number_in, numbers_written, numbers_in}
use Rattle.rtcm2_state.specs.State.{state_size, state_count, start_size, state_numbers, reader_of, holds_state, state_in, too_wide, state_put}
use Rattle.rtcm2_state.specs.Holding.{six_put}
use Rattle.rtcm2_state.proofs.NumberLaws.{number-of, numbers-from, length-numbers}
use Rattle.rtcm2_state.proofs.StateLaws.{held-long, read_is, narrow}
use Rattle.rtcm2_state.proofs.RoundTrip.{put_is, written_read, below}
use Rattle.rtcm2_state.proofs.Telling.{with_six}

-- ---- one number of those written is set

pub number-set : (ns rest : List ℕ) (i n : ℕ) → i < length ns → sets (numbers_written ns ++ rest) (4 * i) (low_bytes 4 n) ≡ numbers_written (set ns i n) ++ rest
unfolding numbers_written low_bytes
number-set [] rest i n h = absurd (omega arith)
number-set (m ∷ ns) rest zero n h = refl
number-set (m ∷ ns) rest (suc i) n h =
    ap (λ j. sets (numbers_written (m ∷ ns) ++ rest) j (low_bytes 4 n)) four
    ∙ ap (λ l. m % 256 ∷ m / 256 % 256 ∷ m / 256 / 256 % 256 ∷ m / 256 / 256 / 256 % 256 ∷ l) (number-set ns rest i n (omega arith))
  where
    four : 4 * suc i ≡ suc (suc (suc (suc (4 * i))))
    four = omega arith

-- the same by the byte where it stands
pub number-set-at : (ns rest : List ℕ) (i at n : ℕ) → at ≡ 4 * i → i < length ns
    → sets (numbers_written ns ++ rest) at (low_bytes 4 n) ≡ numbers_written (set ns i n) ++ rest
number-set-at ns rest i at n e h = ap (λ j. sets (numbers_written ns ++ rest) j (low_bytes 4 n)) e ∙ number-set ns rest i n h

-- ---- the reader after such a byte

module _ (r : Reader) (room : r.candidate.end ≤ 1216) (b words : ℕ) (waits : Bool)
    (to : step_to r.cells r.candidate (number (six b)) ≡ with_six r.candidate words waits) where
  abbrev c : Candidate
  c = r.candidate

  abbrev x : ℕ
  x = number (six b)

  -- its numbers: two cells and four counts are set
  abbrev both : ℕ
  both = put_pair (get_or r.cells (c.end / 32) 0) (c.end % 32) x

  abbrev cells_set : List ℕ
  cells_set = set (set (state_numbers r) (9 + c.end / 32) (both / 2 ^ 32)) (9 + c.end / 32 + 1) (both % 2 ^ 32)

  step-numbers : state_numbers (stepped_by r b) ≡ set (set (set (set cells_set 1 (c.end + 6)) 2 (c.held + 6)) 3 words) 5 (val waits)
  unfolding state_numbers stepped_by step_cells put_cells
  step-numbers =
      ap₂ (λ cells (k : Candidate). state_numbers (record { cells = cells; candidate = k; ended = r.ended }))
      (sym (push-in r.cells c.end c.held x room).1) to
      ∙ rw (nine (c.end / 32), nine' (c.end / 32))
    where
      nine : (j : ℕ) → 9 + j ≡ suc (suc (suc (suc (suc (suc (suc (suc (suc j))))))))
      nine j = omega arith

      nine' : (j : ℕ) → suc (suc (suc (suc (suc (suc (suc (suc (suc j)))))))) + 1 ≡ suc (suc (suc (suc (suc (suc (suc (suc (suc (j + 1)))))))))
      nine' j = omega arith

-- ---- the bytes after such a byte

-- each element of a slice is a byte
pub all-bytes : (bs : List ℕ) → ((i : ℕ) → get_or bs i 0 < 256) → AreBytes bs
all-bytes [] h = tt
all-bytes (b ∷ bs) h = (h 0, all-bytes bs (λ i. h (suc i)))

module _ (bs : List ℕ) (f : AreBytes bs) (held : holds_state bs ≡ true) where
  abbrev R : Reader
  R = state_in bs

  pub cells_are : R.cells ≡ numbers_in 40 (drop start_size bs)
  unfolding reader_of
  cells_are = ap (λ (r : Reader). r.cells) (read_is bs held) ∙ numbers-from state_count 40 9 bs (omega arith)

  pub cells-full : length R.cells ≡ 40
  cells-full = ap length cells_are ∙ length-numbers 40 (drop start_size bs)

  pub place-small : R.candidate.at < 2 ^ 32
  place-small = subst (λ (r : Reader). r.candidate.at < 2 ^ 32) (sym (read_is bs held)) (unfold reader_of in below bs f held 4 (omega arith))

  -- six numbers are set
  module _ (a : Accepted R.candidate) (room : R.candidate.end ≤ 1216) (b words : ℕ) (waits : Bool) (few : words ≤ 33)
      (to : step_to R.cells R.candidate (number (six b)) ≡ with_six R.candidate words waits) where
    abbrev j : ℕ
    j = R.candidate.end / 32

    -- the cell as it is read
    cell-read : number_in (take 4 (drop (start_size + 4 * j) bs)) ≡ get_or R.cells j 0
    cell-read =
        sym (
        ap (λ cells. get_or cells j 0) cells_are
        ∙ number-of 40 j (drop start_size bs) (omega arith)
        ∙ ap (λ l. number_in (take 4 l)) (drop-drop (4 * j) start_size bs)
        )

    count : length (state_numbers R) ≡ state_count
    unfolding state_numbers
    count = omega (arith, cells-full)

    -- its counts fit in four bytes
    narrow-still : too_wide (stepped_by R b).candidate ≡ false
    unfolding stepped_by
    narrow-still = ap too_wide to ∙ narrow (with_six R.candidate words waits) (omega arith) (omega (arith, a.low)) (omega arith)

    abbrev rest : List ℕ
    rest = drop state_size bs

    abbrev pair : ℕ → ℕ
    pair v = put_pair v (R.candidate.end % 32) (number (six b))

    -- the two cells, then the four counts, in the bytes and in the numbers
    abbrev cell_bytes : List ℕ → ℕ → List ℕ
    cell_bytes l p =
        let at = start_size + 4 * j in
        sets (sets l at (low_bytes 4 (p / 2 ^ 32))) (at + 4) (low_bytes 4 (p % 2 ^ 32))

    abbrev cell_numbers : List ℕ → ℕ → List ℕ
    cell_numbers ns p = set (set ns (9 + j) (p / 2 ^ 32)) (9 + j + 1) (p % 2 ^ 32)

    abbrev count_bytes : List ℕ → List ℕ
    count_bytes l =
        sets (sets (sets (sets l 4 (low_bytes 4 (R.candidate.end + 6))) 8 (low_bytes 4 (R.candidate.held + 6))) 12 (low_bytes 4 words))
        20 (low_bytes 4 (val waits))

    abbrev count_numbers : List ℕ → List ℕ
    count_numbers ns = set (set (set (set ns 1 (R.candidate.end + 6)) 2 (R.candidate.held + 6)) 3 words) 5 (val waits)

    cells-set : (ns : List ℕ) → length ns ≡ state_count → (p : ℕ) → cell_bytes (numbers_written ns ++ rest) p ≡ numbers_written (cell_numbers ns p) ++ rest
    cells-set ns n p =
        let at = start_size + 4 * j in
        ap (λ l. sets l (at + 4) (low_bytes 4 (p % 2 ^ 32)))
        (number-set-at ns rest (9 + j) at (p / 2 ^ 32) (omega arith) (omega (arith, n)))
        ∙ number-set-at (set ns (9 + j) (p / 2 ^ 32)) rest (9 + j + 1) (at + 4) (p % 2 ^ 32) (omega arith)
        (omega (arith, n, length-set ns (9 + j) (p / 2 ^ 32)))

    counts-set : (ns : List ℕ) → length ns ≡ state_count → count_bytes (numbers_written ns ++ rest) ≡ numbers_written (count_numbers ns) ++ rest
    counts-set ns n =
        let one = set ns 1 (R.candidate.end + 6) in
        let two = set one 2 (R.candidate.held + 6) in
        let three = set two 3 words in
        let e₁ = length-set ns 1 (R.candidate.end + 6) in
        let e₂ = length-set one 2 (R.candidate.held + 6) in
        ap (λ l. sets (sets (sets l 8 (low_bytes 4 (R.candidate.held + 6))) 12 (low_bytes 4 words)) 20 (low_bytes 4 (val waits)))
        (number-set-at ns rest 1 4 (R.candidate.end + 6) (omega arith) (omega (arith, n)))
        ∙ ap (λ l. sets (sets l 12 (low_bytes 4 words)) 20 (low_bytes 4 (val waits)))
        (number-set-at one rest 2 8 (R.candidate.held + 6) (omega arith) (omega (arith, n, e₁)))
        ∙ ap (λ l. sets l 20 (low_bytes 4 (val waits))) (number-set-at two rest 3 12 words (omega arith) (omega (arith, n, e₁, e₂)))
        ∙ number-set-at three rest 5 20 (val waits) (omega arith) (omega (arith, n, e₁, e₂, length-set two 3 words))

    cells_count : (ns : List ℕ) (p : ℕ) → length ns ≡ state_count → length (cell_numbers ns p) ≡ state_count
    cells_count ns p n = length-set (set ns (9 + j) (p / 2 ^ 32)) (9 + j + 1) (p % 2 ^ 32) ∙ length-set ns (9 + j) (p / 2 ^ 32) ∙ n

    pub quiet_put : six_put bs R.candidate.end R.candidate.held words (val waits) (number (six b)) ≡ state_put (stepped_by R b) bs
    unfolding six_put
    quiet_put =
        let p = pair (get_or R.cells j 0) in
        ap (λ v. count_bytes (cell_bytes bs (pair v))) cell-read
        ∙ ap (λ l. count_bytes (cell_bytes l p)) (sym (written_read bs f held))
        ∙ ap count_bytes (cells-set (state_numbers R) count p)
        ∙ counts-set (cell_numbers (state_numbers R) p) (cells_count (state_numbers R) p count)
        ∙ ap (λ ns. numbers_written ns ++ rest) (sym (step-numbers R room b words waits to))
        ∙ sym (put_is (stepped_by R b) bs narrow-still (held-long bs held))
