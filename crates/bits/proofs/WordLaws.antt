-- Data words and their bits are inverse; a field of up to 32 bits at any bit is read from three words; the fill as a number.
-- Assumes nothing.
use mathlib.Core.Path.{◌≡◌, refl, sym, ap, ap₂, ◌∙◌}
use mathlib.Core.Bool.{Bool}
use mathlib.Core.List.{List, [], ◌∷◌, ◌++◌, append_assoc}
use Prim.Native.Nat.{ℕ, zero, suc, ◌+◌, ◌*◌, ◌-◌, ◌/◌, ◌%◌, ◌^◌, ◌≤◌}
use native.Mathlib.Nat.{add-zero}
use native.Mathlib.Omega.{arith}
use lib.ListN.{length, take, drop, get_or, length-append, length-take, length-drop, take-append-drop}
use lib.Seq.{take_at, drop_at, drop-drop, get_or-drop, drop-nil}
use Rattle.bits.specs.Bits.{bits, number}
use Rattle.bits.specs.Fields.{field_at}
use Rattle.bits.specs.Rows.{data_bits, cut_words, fill_of, filled, words_in}
use Rattle.bits.proofs.Numbers.{length-bits, number-bits, bits-number, bits-split, number_append}
use Rattle.bits.proofs.FieldLaws.{field-front, number-part}

-- WORDS AND BITS
pub length-data : (ws : List ℕ) → length (data_bits ws) ≡ 24 * length ws
unfolding data_bits
length-data [] = refl
length-data (w ∷ ws) = omega (arith, length-append (bits 24 w) (data_bits ws), length-bits 24 w, length-data ws)

pub data-append : (a b : List ℕ) → data_bits (a ++ b) ≡ data_bits a ++ data_bits b
unfolding data_bits
data-append [] b = refl
data-append (w ∷ a) b = rw (data-append a b) (sym (append_assoc (bits 24 w) (data_bits a) (data_bits b)))

pub length-words : (n : ℕ) (bs : List Bool) → length (cut_words n bs) ≡ n
unfolding cut_words
length-words zero bs = refl
length-words (suc n) bs = ap suc (length-words n (drop 24 bs))

pub data-words : (n : ℕ) (bs : List Bool) → length bs ≡ 24 * n → data_bits (cut_words n bs) ≡ bs
unfolding cut_words data_bits
data-words zero [] h = refl
data-words zero (b ∷ bs) h = absurd (omega arith)
data-words (suc n) bs h =
    ap₂ ◌++◌ (bits-number 24 (take 24 bs) (omega (arith, length-take 24 bs))) (data-words n (drop 24 bs) (omega (arith, length-drop 24 bs)))
    ∙ take-append-drop 24 bs

pub drop-data : (j : ℕ) (ws : List ℕ) → drop (24 * j) (data_bits ws) ≡ data_bits (drop j ws)
unfolding data_bits
drop-data zero ws = refl
drop-data (suc j) [] = drop-nil (24 * suc j)
drop-data (suc j) (w ∷ ws) =
    ap (λ m. drop m (bits 24 w ++ data_bits ws)) back ∙ sym (drop-drop (24 * j) 24 (bits 24 w ++ data_bits ws))
    ∙ rw (drop_at (bits 24 w) (data_bits ws) 24 (length-bits 24 w)) (drop-data j ws)
  where
    back : 24 * suc j ≡ 24 + 24 * j
    back = omega arith

-- A FIELD OF UP TO 32 BITS AT ANY BIT, FROM THREE WORDS

-- the first 64 bits of three words
abbrev pub front : ℕ → ℕ → ℕ → List Bool
front a b c = bits 24 a ++ (bits 24 b ++ bits 16 (c / 2 ^ 8))

length_front : (a b c : ℕ) → length (front a b c) ≡ 64
length_front a b c = omega (
  arith,
  length-append (bits 24 a) (bits 24 b ++ bits 16 (c / 2 ^ 8)),
  length-append (bits 24 b) (bits 16 (c / 2 ^ 8)),
  length-bits 24 a,
  length-bits 24 b,
  length-bits 16 (c / 2 ^ 8),
)

number-front : (a b c : ℕ) → number (front a b c) ≡ a % 2 ^ 24 * 2 ^ 40 + (b % 2 ^ 24 * 2 ^ 16 + c / 2 ^ 8 % 2 ^ 16)
number-front a b c =
    number_append (bits 24 a) (bits 24 b ++ bits 16 (c / 2 ^ 8))
    ∙ rw (
      length-append (bits 24 b) (bits 16 (c / 2 ^ 8)),
      number_append (bits 24 b) (bits 16 (c / 2 ^ 8)),
      length-bits 24 b,
      length-bits 16
          (c / 2 ^ 8),
      number-bits 24 a,
      number-bits 24 b,
      number-bits 16 (c / 2 ^ 8),
    )

same-front : (o w : ℕ) (l : List ℕ) → o + w ≤ 24 * length l → o + w ≤ 64
    → field_at o w (data_bits l) ≡ field_at o w (front (get_or l 0 0) (get_or l 1 0) (get_or l 2 0))
unfolding data_bits
same-front o w [] h k = empty w (omega arith)
  where
    empty : (w : ℕ) → w ≡ 0 → field_at o w [] ≡ field_at o w (front 0 0 0)
    empty zero e = refl
    empty (suc w) e = absurd (omega arith)
same-front o w (a ∷ []) h k =
    field-front o w (bits 24 a) [] (omega (arith, length-bits 24 a))
    ∙ sym (field-front o w (bits 24 a) (bits 24 0 ++ bits 16 (0 / 2 ^ 8)) (omega (arith, length-bits 24 a)))
same-front o w (a ∷ b ∷ []) h k =
    ap (field_at o w) (sym (append_assoc (bits 24 a) (bits 24 b) []))
    ∙ field-front o w (bits 24 a ++ bits 24 b) [] (omega (arith, long))
    ∙ sym (field-front o w (bits 24 a ++ bits 24 b) (bits 16 (0 / 2 ^ 8)) (omega (arith, long)))
    ∙ ap (field_at o w) (append_assoc (bits 24 a) (bits 24 b) (bits 16 (0 / 2 ^ 8)))
  where
    long : length (bits 24 a ++ bits 24 b) ≡ 48
    long = length-append (bits 24 a) (bits 24 b) ∙ rw (length-bits 24 a, length-bits 24 b)
same-front o w (a ∷ b ∷ c ∷ l) h k =
    ap (λ x. field_at o w (bits 24 a ++ (bits 24 b ++ (x ++ data_bits l)))) (bits-split 16 8 c)
    ∙ ap (field_at o w) regroup
    ∙ field-front o w (front a b c) (bits 8 c ++ data_bits l) (omega (arith, length_front a b c))
  where
    regroup : bits 24 a ++ (bits 24 b ++ ((bits 16 (c / 2 ^ 8) ++ bits 8 c) ++ data_bits l)) ≡ front a b c ++ (bits 8 c ++ data_bits l)
    regroup = simp append_assoc

pub three-words : (ws : List ℕ) (o w : ℕ) → o + w ≤ 24 * length ws → w ≤ 32
    → (get_or ws (o / 24)
    0 % 2 ^ 24 * 2 ^ 40 + (get_or ws (o / 24 + 1) 0 % 2 ^ 24 * 2 ^ 16 + get_or ws (o / 24 + 2) 0 / 2 ^ 8 % 2 ^ 16)) / 2 ^ (64 - (o % 24 + w)) % 2 ^ w
    ≡ field_at o w (data_bits ws)
three-words ws o w h k =
    ap (λ n. n / 2 ^ (64 - (o % 24 + w)) % 2 ^ w) (sym (number-front (get_or ws j 0) (get_or ws (j + 1) 0) (get_or ws (j + 2) 0)))
    ∙ number-part (o % 24) w (64 - (o % 24 + w)) F (omega (arith, length_front (get_or ws j 0) (get_or ws (j + 1) 0) (get_or ws (j + 2) 0)))
    ∙ ap (λ x. field_at (o % 24) w x) (sym gets)
    ∙ sym (same-front (o % 24) w (drop j ws) (omega (arith, length-drop j ws)) (omega arith))
    ∙ ap (λ x. field_at (o % 24) w x) (sym (drop-data j ws))
    ∙ ap (λ x. number (take w x)) (drop-drop (o % 24) (24 * j) (data_bits ws) ∙ ap (λ m. drop m (data_bits ws)) back)
  where
    j : ℕ
    j = o / 24

    F : List Bool
    F = front (get_or ws j 0) (get_or ws (j + 1) 0) (get_or ws (j + 2) 0)

    back : 24 * (o / 24) + o % 24 ≡ o
    back = omega arith

    gets : front (get_or (drop j ws) 0 0) (get_or (drop j ws) 1 0) (get_or (drop j ws) 2 0) ≡ F
    gets = rw (get_or-drop j ws 0 0, get_or-drop j ws 1 0, get_or-drop j ws 2 0, add-zero j)

-- FILL
pub length-fill : (pattern k : ℕ) → k ≤ 24 → length (fill_of pattern k) ≡ k
unfolding fill_of
length-fill pattern k h = omega (arith, length-take k (bits 24 pattern), length-bits 24 pattern)

pub fill-number : (pattern k : ℕ) → k ≤ 24 → fill_of pattern k ≡ bits k (pattern / 2 ^ (24 - k))
unfolding fill_of
fill-number pattern k h =
    ap (λ n. take k (bits n pattern)) back ∙ ap (take k) (bits-split k (24 - k) pattern)
    ∙ take_at (bits k (pattern / 2 ^ (24 - k))) (bits (24 - k) pattern) k (length-bits k (pattern / 2 ^ (24 - k)))
  where
    back : 24 ≡ k + (24 - k)
    back = omega arith

pub length-filled : (pattern : ℕ) (bs : List Bool) → length (filled pattern bs) ≡ 24 * ((length bs + 23) / 24)
unfolding filled
length-filled pattern bs =
    omega (arith, length-append bs (fill_of pattern ((24 - length bs % 24) % 24)), length-fill pattern ((24 - length bs % 24) % 24) (omega arith))

-- the words of filled bits have these bits
pub data-words_in : (pattern : ℕ) (bs : List Bool) → data_bits (words_in pattern bs) ≡ filled pattern bs
unfolding words_in
data-words_in pattern bs = data-words ((length bs + 23) / 24) (filled pattern bs) (length-filled pattern bs)
