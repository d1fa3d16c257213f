-- The buffer of cells against the list of its bits: what is held, and a window at any bit. Assumes nothing.
use Rattle.std.proofs.Common.{◌≡◌, ℕ, zero, suc, ◌+◌, ◌-◌, ◌*◌, ◌/◌, ◌%◌, ◌^◌, ◌<◌, ◌≤◌, Bool, List, [], ◌∷◌, ◌++◌, length, get_or, take, drop, sym, refl, ap, ◌∙◌, append_assoc, suc-add, zero-add, add-one, arith, length-append, length-drop, drop_of_length-le, length-take, drop-cons, take-take, drop-drop, drop_at}
use native.Mathlib.Decide.{dec_lt}
use lib.Seq.{take-append-le, drop-append-le, take-nil}
use Rattle.bits.specs.Bits.{number, bits}
use Rattle.bits.proofs.Numbers.{length-bits, number_append, number-bits}
use Rattle.bits.proofs.FieldLaws.{number-part}
use Rattle.reader.specs.Cells.{cell_bits, held_bits, pair_at}

pub length-cells : (l : List ℕ) → length (cell_bits l) ≡ 32 * length l
unfolding cell_bits
length-cells [] = refl
length-cells (c ∷ l) = omega (arith, length-append (bits 32 c) (cell_bits l), length-bits 32 c, length-cells l)

pub cells-append : (a b : List ℕ) → cell_bits (a ++ b) ≡ cell_bits a ++ cell_bits b
unfolding cell_bits
cells-append [] b = refl
cells-append (c ∷ a) b = rw (cells-append a b) (sym (append_assoc (bits 32 c) (cell_bits a) (cell_bits b)))

-- lists
pub drop-take : (i n : ℕ) (l : List Bool) → drop i (take (i + n) l) ≡ take n (drop i l)
drop-take zero n l = rw zero-add
drop-take (suc i) n [] = ap (drop (suc i)) (take-nil (suc i + n)) ∙ sym (take-nil n)
drop-take (suc i) n (x ∷ l) = rw suc-add (drop-take i n l)

pub length-held : (cells : List ℕ) (end n : ℕ) → length cells ≡ 40 → end ≤ 1280 → n ≤ end → length (held_bits cells end n) ≡ n
unfolding held_bits
length-held cells end n l t h = omega (arith, length-drop (end - n) (take end (cell_bits cells)), length-take end (cell_bits cells), length-cells cells)

-- one bit less
pub held-drop : (cells : List ℕ) (end n : ℕ) → n < end → drop 1 (held_bits cells end (suc n)) ≡ held_bits cells end n
unfolding held_bits
held-drop cells end n h = drop-drop 1 (end - suc n) (take end (cell_bits cells)) ∙ ap (λ (m : ℕ). drop m (take end (cell_bits cells))) back
  where
    back : end - suc n + 1 ≡ end - n
    back = omega arith

pub held-part : (cells : List ℕ) (end n m : ℕ) → m ≤ n → n ≤ end → drop (n - m) (held_bits cells end n) ≡ held_bits cells end m
unfolding held_bits
held-part cells end n m h l = drop-drop (n - m) (end - n) (take end (cell_bits cells)) ∙ ap (λ (k : ℕ). drop k (take end (cell_bits cells))) back
  where
    back : end - n + (n - m) ≡ end - m
    back = omega arith

pub held_none : (cells : List ℕ) (end : ℕ) → held_bits cells end 0 ≡ []
unfolding held_bits
held_none cells end = drop_of_length-le (take end (cell_bits cells)) {i = end - 0} (omega (arith, length-take end (cell_bits cells)))

-- m bits of the bits held
pub held-bit : (cells : List ℕ) (end n j m : ℕ) → j + m ≤ n → n ≤ end → take m (drop j (held_bits cells end n)) ≡ take m (drop (end - n + j) (cell_bits cells))
unfolding held_bits
held-bit cells end n j m h l =
    ap (take m) (drop-drop j (end - n) (take end (cell_bits cells)) ∙ ap (λ (k : ℕ). drop (end - n + j) (take k (cell_bits cells))) back
    ∙ drop-take (end - n + j) (n - j) (cell_bits cells))
    ∙ take-take m (n - j) (drop (end - n + j) (cell_bits cells)) (omega arith)
  where
    back : end ≡ end - n + j + (n - j)
    back = omega arith

pub held_word : (cells : List ℕ) (end n j : ℕ) → j + 32 ≤ n → n ≤ end → take 32 (drop j (held_bits cells end n)) ≡ take 32 (drop (end - n + j) (cell_bits cells))
held_word cells end n j h l = held-bit cells end n j 32 h l

-- THIRTY-TWO BITS FROM ANY PLACE
pub drop_cells : (j : ℕ) (l : List ℕ) → j ≤ length l → drop (32 * j) (cell_bits l) ≡ cell_bits (drop j l)
unfolding cell_bits
drop_cells zero l h = refl
drop_cells (suc j) [] h = absurd (omega arith)
drop_cells (suc j) (c ∷ l) h =
    ap (λ (m : ℕ). drop m (bits 32 c ++ cell_bits l)) back ∙ sym (drop-drop (32 * j) 32 (bits 32 c ++ cell_bits l))
    ∙ rw (drop_at (bits 32 c) (cell_bits l) 32 (length-bits 32 c)) (drop_cells j l (omega arith))
  where
    back : 32 * suc j ≡ 32 + 32 * j
    back = omega arith

prefix : (m i : ℕ) (a b : List Bool) → i + m ≤ length a → take m (drop i (a ++ b)) ≡ take m (drop i a)
prefix m i a b h =
    let u : i ≤ length a = omega arith in
    let v : m ≤ length (drop i a) = omega (arith, length-drop i a) in
    rw (drop-append-le i a b, take-append-le m (drop i a) b)

-- a cell and the one after it, 0 where there is none, as bits
abbrev two_bits : List ℕ → ℕ → List Bool
two_bits cells w = bits 32 (get_or cells w 0) ++ bits 32 (get_or cells (w + 1) 0)

length_two : (cells : List ℕ) (w : ℕ) → length (two_bits cells w) ≡ 64
length_two cells w =
    length-append (bits 32 (get_or cells w 0)) (bits 32 (get_or cells (w + 1) 0)) ∙ rw (length-bits 32 (get_or cells w 0), length-bits 32 (get_or cells (w + 1) 0))

number-two : (cells : List ℕ) (w : ℕ) → number (two_bits cells w) ≡ pair_at cells w
number-two cells w =
    number_append (bits 32 (get_or cells w 0)) (bits 32 (get_or cells (w + 1) 0))
    ∙ rw (length-bits 32 (get_or cells (w + 1) 0), number-bits 32 (get_or cells w 0), number-bits 32 (get_or cells (w + 1) 0))

-- m bits that pair_at cells have
in_two : (cells : List ℕ) (w o m : ℕ) → length cells ≡ 40 → w < 40 → 32 * w + o + m ≤ 1280 → o + m ≤ 64
    → take m (drop (32 * w + o) (cell_bits cells)) ≡ take m (drop o (two_bits cells w))
unfolding cell_bits
in_two cells w o m l h room two =
    ap (take m) (sym (drop-drop o (32 * w) (cell_bits cells))) ∙ rw (drop_cells w cells (omega (arith, l)), first) (same (dec_lt (w + 1) 40))
  where
    first : drop w cells ≡ get_or cells w 0 ∷ drop (w + 1) cells
    first = drop-cons cells w 0 (omega (arith, l)) ∙ ap (λ (n : ℕ). get_or cells w 0 ∷ drop n cells) (sym (add-one w))

    same : Dec (w + 1 < 40) → take m (drop o (bits 32 (get_or cells w 0) ++ cell_bits (drop (w + 1) cells))) ≡ take m (drop o (two_bits cells w))
    same (yes g) =
        rw (
          drop-cons cells (w + 1) 0 (omega (arith, l, g)),
          ← (append_assoc (bits 32 (get_or cells w 0)) (bits 32 (get_or cells (w + 1) 0)) (cell_bits (drop (suc (w + 1)) cells))),
        )
        (prefix m o (two_bits cells w) (cell_bits (drop (suc (w + 1)) cells)) (omega (arith, length_two cells w)))
    same (no g) =
        prefix m o (bits 32 (get_or cells w 0)) (cell_bits (drop (w + 1) cells)) (omega (arith, g, length-bits 32 (get_or cells w 0)))
        ∙ sym (prefix m o (bits 32 (get_or cells w 0)) (bits 32 (get_or cells (w + 1) 0)) (omega (arith, g, length-bits 32 (get_or cells w 0))))

-- b bits from bit a of pair_at cells on, as a number
number_in : (cells : List ℕ) (w a b c : ℕ) → length cells ≡ 40 → w < 40 → 32 * w + a + b ≤ 1280 → 64 ≡ a + b + c
    → pair_at cells w / 2 ^ c % 2 ^ b ≡ number (take b (drop (32 * w + a) (cell_bits cells)))
number_in cells w a b c l h room e =
    ap (λ (n : ℕ). n / 2 ^ c % 2 ^ b) (sym (number-two cells w)) ∙ number-part a b c (two_bits cells w) (length_two cells w ∙ e)
    ∙ ap number (sym (in_two cells w a b l h room (omega arith)))

pub number-window : (cells : List ℕ) (i : ℕ) → length cells ≡ 40 → i + 32 ≤ 1280
    → pair_at cells (i / 32) / 2 ^ (32 - i % 32) % 2 ^ 32 ≡ number (take 32 (drop i (cell_bits cells)))
number-window cells i l room =
    number_in cells (i / 32) (i % 32) 32 (32 - i % 32) l (omega arith) (omega arith) (omega arith)
    ∙ ap (λ (n : ℕ). number (take 32 (drop n (cell_bits cells)))) back
  where
    back : 32 * (i / 32) + i % 32 ≡ i
    back = omega arith

-- D30* and D1 to D8 of the position at bit i
pub number-nine : (cells : List ℕ) (w o i : ℕ) → length cells ≡ 40 → w < 40 → o ≤ 54 → 32 * w + o ≡ i → i + 10 ≤ 1280
    → pair_at cells w / 2 ^ (54 - o) % 512 ≡ number (take 9 (drop (i + 1) (cell_bits cells)))
number-nine cells w o i l h low e room =
    number_in cells w (o + 1) 9 (54 - o) l h (omega arith) (omega arith) ∙ ap (λ (n : ℕ). number (take 9 (drop n (cell_bits cells)))) back
  where
    back : 32 * w + (o + 1) ≡ i + 1
    back = omega arith
