-- A number and its bytes: the library's bytes of it are those that the definitions say. Assumes nothing.
use mathlib.Core.Path.{◌≡◌, refl, sym, ap, ◌∙◌}
use mathlib.Core.List.{List, [], ◌∷◌, ◌++◌, append_assoc}
use Prim.Native.Nat.{ℕ, zero, suc, ◌+◌, ◌-◌, ◌*◌, ◌/◌, ◌%◌, ◌^◌, ◌≤◌, ◌<◌}
use native.Mathlib.Nat.{div-div-eq-div-mul, pow-suc}
use native.Mathlib.Omega.{arith}
use lib.ListN.{length, take, drop, get_or, replicate, length-append, length-drop, length-replicate, length-take, drop_of_length-le}
use lib.Seq.{get_or-drop, drop-drop, sets, sets-eq}
use mir.Syntax.{w64}
use Rattle.std.specs.Int.{from_le_bytes, to_le_bytes, bytes_low_first}
use Rattle.rtcm2_state.specs.Numbers.{low_bytes, number_in}
use Rattle.rtcm2_state.proofs.NumberLaws.{length-bytes}

-- ---- reading

-- a byte and those above it
first_byte : (l : List ℕ) (i : ℕ) → number_in (drop i l) ≡ get_or l i 0 + 256 * number_in (drop (suc i) l)
unfolding number_in
first_byte [] zero = refl
first_byte [] (suc i) = refl
first_byte (b ∷ l) zero = refl
first_byte (b ∷ l) (suc i) = first_byte l i

none-left : (l : List ℕ) (i : ℕ) → length l ≤ i → number_in (drop i l) ≡ 0
unfolding number_in
none-left l i h = ap number_in (drop_of_length-le l {i = i} h)

-- eight bytes as the library reads them
pub eight_bytes : (l : List ℕ) → length l ≤ 8 → from_le_bytes w64 l ≡ number_in l
eight_bytes l h =
    omega (arith, first_byte l 0, first_byte l 1, first_byte l 2, first_byte l 3, first_byte l 4, first_byte l 5, first_byte l 6, first_byte l 7, none-left l 8 h)

-- zeros past bytes add nothing
zeros : (k m : ℕ) → number_in (drop k (replicate m 0)) ≡ 0
unfolding number_in
zeros zero zero = refl
zeros zero (suc m) = omega (arith, zeros zero m)
zeros (suc k) zero = refl
zeros (suc k) (suc m) = zeros k m

padded : (bs : List ℕ) (k : ℕ) → number_in (bs ++ drop k (replicate 8 0)) ≡ number_in bs
unfolding number_in
padded [] k = zeros k 8
padded (b ∷ bs) k = ap (λ n. b + 256 * n) (padded bs k)

pub number-law : (bs l : List ℕ) (at size k n : ℕ) → size ≤ 8 → at + size ≤ length bs → k ≡ size → l ≡ take (at + size - at) (drop at bs)
    → n ≡ from_le_bytes w64 (l ++ drop k (replicate 8 0)) → n ≡ number_in (take size (drop at bs))
number-law bs l at size k n e h ek el en =
    en ∙ eight_bytes (l ++ drop k (replicate 8 0)) whole ∙ padded l k ∙ ap number_in (el ∙ ap (λ j. take j (drop at bs)) same)
  where
    same : at + size - at ≡ size
    same = omega arith

    whole : length (l ++ drop k (replicate 8 0)) ≤ 8
    whole = omega (
      arith,
      length-append {A = ℕ} l (drop k (replicate 8 0)),
      length-drop {A = ℕ} k (replicate 8 0),
      length-replicate {A = ℕ} 8 0,
      ap length el,
      length-take (at + size - at) (drop at bs),
    )

-- four bytes at most are below 2^32
take-small : (k : ℕ) (bs : List ℕ) → ((i : ℕ) → get_or bs i 0 < 256) → (i : ℕ) → get_or (take k bs) i 0 < 256
take-small zero bs h i = omega arith
take-small (suc k) [] h i = omega arith
take-small (suc k) (b ∷ bs) h zero = h 0
take-small (suc k) (b ∷ bs) h (suc i) = take-small k bs (λ j. h (suc j)) i

pub few-fit : (bs : List ℕ) (at size : ℕ) → size ≤ 4 → ((i : ℕ) → get_or bs i 0 < 256) → number_in (take size (drop at bs)) < 2 ^ 32
few-fit bs at size e h =
    let small = take-small size (drop at bs) (λ i. omega (arith, get_or-drop at bs i 0, h (at + i))) in
    let l = take size (drop at bs) in
    omega (
      arith,
      first_byte l 0,
      first_byte l 1,
      first_byte l 2,
      first_byte l 3,
      none-left l 4 (omega (arith, length-take size (drop at bs))),
      small 0,
      small 1,
      small 2,
      small 3,
    )

-- ---- putting

take-low : (k m n : ℕ) → k ≤ m → take k (low_bytes m n) ≡ low_bytes k n
unfolding low_bytes
take-low zero m n h = refl
take-low (suc k) zero n h = absurd (omega arith)
take-low (suc k) (suc m) n h = ap (λ l. n % 256 ∷ l) (take-low k m (n / 256) (omega arith))

-- bytes as the library puts them
low-first : (i k n : ℕ) → bytes_low_first (suc i) k n ≡ low_bytes k (n / 256 ^ suc i)
unfolding low_bytes
low-first i zero n = refl
low-first i (suc k) n = ap (λ l. n / 256 ^ suc i % 256 ∷ l) (low-first (suc i) k n ∙ ap (low_bytes k) up)
  where
    up : n / 256 ^ suc (suc i) ≡ n / 256 ^ suc i / 256
    up = ap (λ m. n / m) (pow-suc 256 (suc i)) ∙ sym (div-div-eq-div-mul n (256 ^ suc i) 256)

low-eight : (n : ℕ) → to_le_bytes w64 n ≡ low_bytes 8 n
unfolding low_bytes
low-eight n = ap (λ l. n % 256 ∷ l) (low-first 0 7 n)

pub put-law : (bs l r : List ℕ) (at size n : ℕ) → size ≤ 8 → at + size ≤ length bs → l ≡ take size r → r ≡ to_le_bytes w64 n
    → take at bs ++ (l ++ drop (at + size - at) (drop at bs)) ≡ sets bs at (low_bytes size n)
put-law bs l r at size n e h el er =
    ap (λ x. take at bs ++ (x ++ drop (at + size - at) (drop at bs))) (el ∙ ap (take size) (er ∙ low-eight n) ∙ take-low size 8 n e)
    ∙ ap (λ x. take at bs ++ (low_bytes size n ++ x)) (drop-drop (at + size - at) at bs ∙ ap (λ j. drop j bs) past)
    ∙ sym (append_assoc (take at bs) (low_bytes size n) (drop (at + length (low_bytes size n)) bs))
    ∙ sym (sets-eq (low_bytes size n) bs at (omega (arith, length-bytes size n)))
  where
    past : at + (at + size - at) ≡ at + length (low_bytes size n)
    past = omega (arith, length-bytes size n)
