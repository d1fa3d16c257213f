-- The four bytes of a number as they are read and stored. Assumes nothing.
use mathlib.Core.Path.{◌≡◌, refl, sym, ap, ap₂, ◌∙◌}
use mathlib.Core.List.{List, [], ◌∷◌, ◌++◌}
use Prim.Native.Nat.{ℕ, suc, ◌+◌, ◌*◌, ◌/◌, ◌≤◌, ◌<◌}
use native.Mathlib.Omega.{arith}
use lib.ListN.{length, take, drop, get_or}
use lib.Seq.{drop-cons, sets}
use Rattle.std.specs.Int.{w32, w64, from_le_bytes, to_le_bytes}
use Rattle.rtcm2_state.specs.Numbers.{low_bytes, number_in, numbers_written}

-- ---- reads

-- the first byte of a number, and the others
number-first : (k : ℕ) (bs : List ℕ) (i j : ℕ) → j ≡ i + 1 → i < length bs
    → number_in (take (suc k) (drop i bs)) ≡ get_or bs i 0 + 256 * number_in (take k (drop j bs))
unfolding number_in
number-first k bs i j e h = ap (λ l. number_in (take (suc k) l)) (drop-cons bs i 0 h ∙ ap (λ m. get_or bs i 0 ∷ drop m bs) next)
  where
    next : suc i ≡ j
    next = omega arith

pub number-four : (bs : List ℕ) (at : ℕ) → at + 4 ≤ length bs
    → from_le_bytes w32 (get_or bs at 0 ∷ get_or bs (at + 1) 0 ∷ get_or bs (at + 2) 0 ∷ get_or bs (at + 3) 0 ∷ []) ≡ number_in (take 4 (drop at bs))
unfolding number_in
number-four bs at h =
    omega (
      arith,
      number-first 3 bs at (at + 1) refl (omega arith),
      number-first 2 bs (at + 1) (at + 2) (omega arith) (omega arith),
      number-first 1 bs (at + 2) (at + 3) (omega arith) (omega arith),
      number-first 0 bs (at + 3) (at + 4) (omega arith) (omega arith),
      none,
    )
  where
    none : number_in (take 0 (drop (at + 4) bs)) ≡ 0
    none = refl

-- ---- stores

pub low-four : (n : ℕ) → take 4 (to_le_bytes w64 n) ≡ low_bytes 4 n
unfolding low_bytes
low-four n = rw (second, third)
  where
    second : n / 65536 ≡ n / 256 / 256
    second = omega arith

    third : n / 16777216 ≡ n / 256 / 256 / 256
    third = omega arith

-- the first of numbers that are stored, and the others
pub store-number : (l : List ℕ) (i n : ℕ) (ns : List ℕ) → sets l i (numbers_written (n ∷ ns)) ≡ sets (sets l i (low_bytes 4 n)) (i + 4) (numbers_written ns)
unfolding low_bytes numbers_written
store-number l i n ns = ap (λ j. sets (sets l i (low_bytes 4 n)) j (numbers_written ns)) four-on
  where
    four-on : suc (suc (suc (suc i))) ≡ i + 4
    four-on = omega arith

-- numbers that are stored in two parts
pub store_both : (ms ns l : List ℕ) (i : ℕ) → sets l i (numbers_written (ms ++ ns)) ≡ sets (sets l i (numbers_written ms)) (i + 4 * length ms) (numbers_written ns)
unfolding numbers_written
store_both [] ns l i = ap (λ j. sets l j (numbers_written ns)) none
  where
    none : i ≡ i + 4 * 0
    none = omega arith
store_both (m ∷ ms) ns l i =
    store-number l i m (ms ++ ns) ∙ store_both ms ns (sets l i (low_bytes 4 m)) (i + 4)
    ∙ ap₂ (λ k j. sets k j (numbers_written ns)) (sym (store-number l i m ms)) four-on
  where
    four-on : i + 4 + 4 * length ms ≡ i + 4 * suc (length ms)
    four-on = omega arith

-- seven numbers, stored one after the other from the start on
pub store-seven : (l : List ℕ) (a b c d e f g : ℕ)
    → sets (sets (sets (sets (sets (sets (sets l
    0 (low_bytes 4 a)) 4 (low_bytes 4 b)) 8 (low_bytes 4 c)) 12 (low_bytes 4 d)) 16 (low_bytes 4 e)) 20 (low_bytes 4 f)) 24 (low_bytes 4 g)
    ≡ sets l 0 (numbers_written (a ∷ b ∷ c ∷ d ∷ e ∷ f ∷ g ∷ []))
unfolding low_bytes numbers_written
store-seven l a b c d e f g = refl

-- and two more behind them
pub store_two : (l : List ℕ) (a b : ℕ) → sets (sets l 28 (low_bytes 4 a)) 32 (low_bytes 4 b) ≡ sets l 28 (numbers_written (a ∷ b ∷ []))
unfolding low_bytes numbers_written
store_two l a b = refl

-- number i of those that are left
pub store-next : (ns l : List ℕ) (next i : ℕ) → i < length ns
    → sets l next (numbers_written (drop i ns)) ≡ sets (sets l next (low_bytes 4 (get_or ns i 0))) (next + 4) (numbers_written (drop (i + 1) ns))
store-next ns l next i h = ap (λ r. sets l next (numbers_written r)) first ∙ store-number l next (get_or ns i 0) (drop (i + 1) ns)
  where
    one : suc i ≡ i + 1
    one = omega arith

    first : drop i ns ≡ get_or ns i 0 ∷ drop (i + 1) ns
    first = drop-cons ns i 0 h ∙ ap (λ j. get_or ns i 0 ∷ drop j ns) one
