-- A number and its bytes are inverse, over how many there are; so are numbers and the bytes that they are kept as. Assumes nothing.
use mathlib.Core.Path.{◌≡◌, refl, sym, ap, ap₂, ◌∙◌}
use mathlib.Core.List.{List, [], ◌∷◌, ◌++◌, append-nil, append_assoc}
use Prim.Native.Nat.{ℕ, zero, suc, ◌+◌, ◌-◌, ◌*◌, ◌/◌, ◌%◌, ◌^◌, ◌≤◌, ◌<◌}
use native.Mathlib.Nat.{pow-suc}
use native.Mathlib.Numerals.{add-one}
use native.Mathlib.Omega.{arith}
use lib.ListN.{length, take, drop, get_or, set, replicate, length-append, length-drop}
use lib.Seq.{take_at, drop_at, drop-drop, take-add, length-take-le, set_at, append_snoc}
use Rattle.bits.specs.Fields.{Fit, AreBytes}
use Rattle.bits.proofs.FieldLaws.{fit-take, fit-drop}
use Rattle.rtcm2_state.specs.Numbers.{low_bytes, number_in, numbers_written, numbers_in}

-- ---- one number

pub length-bytes : (k n : ℕ) → length (low_bytes k n) ≡ k
unfolding low_bytes
length-bytes zero n = refl
length-bytes (suc k) n = ap suc (length-bytes k (n / 256))

pub number-bytes : (k n : ℕ) → n < 256 ^ k → number_in (low_bytes k n) ≡ n
unfolding low_bytes number_in
number-bytes zero n h = omega arith
number-bytes (suc k) n h = omega (arith, number-bytes k (n / 256) upper)
  where
    upper : n / 256 < 256 ^ k
    upper = omega (arith, pow-suc 256 k)

pub bytes-number : (bs : List ℕ) → AreBytes bs → low_bytes (length bs) (number_in bs) ≡ bs
unfolding low_bytes number_in
bytes-number [] f = refl
bytes-number (b ∷ bs) f = ap₂ ◌∷◌ low (ap (low_bytes (length bs)) high ∙ bytes-number bs f.1)
  where
    low : (b + 256 * number_in bs) % 256 ≡ b
    low = omega (arith, f.0)

    high : (b + 256 * number_in bs) / 256 ≡ number_in bs
    high = omega (arith, f.0)

-- four bytes, or fewer, are less than 32 bits
pub number-four : (bs : List ℕ) → AreBytes bs → number_in (take 4 bs) < 2 ^ 32
unfolding number_in
number-four [] f = omega arith
number-four (a ∷ []) f = omega (arith, f.0)
number-four (a ∷ b ∷ []) f = omega (arith, f.0, f.1.0)
number-four (a ∷ b ∷ c ∷ []) f = omega (arith, f.0, f.1.0, f.1.1.0)
number-four (a ∷ b ∷ c ∷ d ∷ bs) f = omega (arith, f.0, f.1.0, f.1.1.0, f.1.1.1.0)

-- ---- numbers one after the other

pub length-written : (ns : List ℕ) → length (numbers_written ns) ≡ 4 * length ns
unfolding numbers_written
length-written [] = refl
length-written (n ∷ ns) = omega (arith, length-append (low_bytes 4 n) (numbers_written ns), length-bytes 4 n, length-written ns)

pub length-numbers : (n : ℕ) (bs : List ℕ) → length (numbers_in n bs) ≡ n
unfolding numbers_in
length-numbers zero bs = refl
length-numbers (suc n) bs = ap suc (length-numbers n (drop 4 bs))

-- one number more
numbers-snoc : (n : ℕ) (bs : List ℕ) → numbers_in (suc n) bs ≡ numbers_in n bs ++ (number_in (take 4 (drop (4 * n) bs)) ∷ [])
unfolding numbers_in
numbers-snoc zero bs = refl
numbers-snoc (suc n) bs =
    ap (λ ns. number_in (take 4 bs) ∷ ns)
    (numbers-snoc n (drop 4 bs) ∙ ap (λ r. numbers_in n (drop 4 bs) ++ (number_in (take 4 r) ∷ [])) (drop-drop (4 * n) 4 bs ∙ ap (λ j. drop j bs) more))
  where
    more : 4 + 4 * n ≡ 4 * suc n
    more = omega arith

-- number i, and the numbers from there on
pub number-of : (n i : ℕ) (bs : List ℕ) → i < n → get_or (numbers_in n bs) i 0 ≡ number_in (take 4 (drop (4 * i) bs))
unfolding numbers_in
number-of zero i bs h = absurd (omega arith)
number-of (suc n) zero bs h = refl
number-of (suc n) (suc i) bs h =
    number-of n i (drop 4 bs) (omega arith) ∙ ap (λ r. number_in (take 4 r)) (drop-drop (4 * i) 4 bs ∙ ap (λ j. drop j bs) more)
  where
    more : 4 + 4 * i ≡ 4 * suc i
    more = omega arith

pub numbers-from : (m n i : ℕ) (bs : List ℕ) → m ≡ n + i → drop i (numbers_in m bs) ≡ numbers_in n (drop (4 * i) bs)
unfolding numbers_in
numbers-from m n zero bs e = ap (λ k. numbers_in k bs) all
  where
    all : m ≡ n
    all = omega arith
numbers-from zero n (suc i) bs e = absurd (omega arith)
numbers-from (suc m) n (suc i) bs e =
    numbers-from m n i (drop 4 bs) (omega arith) ∙ ap (numbers_in n) (drop-drop (4 * i) 4 bs ∙ ap (λ j. drop j bs) more)
  where
    more : 4 + 4 * i ≡ 4 * suc i
    more = omega arith

-- ---- inverse both ways

pub numbers-written : (ns rest : List ℕ) → Fit (replicate (length ns) 32) ns → numbers_in (length ns) (numbers_written ns ++ rest) ≡ ns
unfolding numbers_written numbers_in
numbers-written [] rest f = refl
numbers-written (n ∷ ns) rest f =
    rw (
      append_assoc (low_bytes 4 n) (numbers_written ns) rest,
      take_at (low_bytes 4 n) (numbers_written ns ++ rest) 4 (length-bytes 4 n),
      drop_at (low_bytes 4 n) (numbers_written ns ++ rest) 4 (length-bytes 4 n),
    )
    (ap₂ ◌∷◌ (number-bytes 4 n f.0) (numbers-written ns rest f.1))

pub written-numbers : (n : ℕ) (bs : List ℕ) → AreBytes bs → 4 * n ≤ length bs → numbers_written (numbers_in n bs) ≡ take (4 * n) bs
unfolding numbers_written numbers_in
written-numbers zero bs f h = refl
written-numbers (suc n) bs f h =
    ap₂ ◌++◌ (ap (λ j. low_bytes j (number_in (take 4 bs))) (sym full) ∙ bytes-number (take 4 bs) (fit-take 4 bs f))
    (written-numbers n (drop 4 bs) (fit-drop 4 bs f) (omega (arith, length-drop 4 bs)))
    ∙ sym (take-add 4 (4 * n) bs)
    ∙ ap (λ j. take j bs) more
  where
    full : length (take 4 bs) ≡ 4
    full = length-take-le 4 bs (omega arith)

    more : 4 + 4 * n ≡ 4 * suc n
    more = omega arith

-- ---- an array that is 0 from number i on gets number i

pub number-filled : (m i : ℕ) (bs : List ℕ) → i < m
    → set (numbers_in i bs ++ replicate (m - i) 0) i (number_in (take 4 (drop (4 * i) bs))) ≡ numbers_in (i + 1) bs ++ replicate (m - (i + 1)) 0
number-filled m i bs h =
    ap (λ j. set (numbers_in i bs ++ replicate j 0) i (number_in (take 4 (drop (4 * i) bs)))) lower
    ∙ set_at (numbers_in i bs) 0 (replicate (m - (i + 1)) 0) (number_in (take 4 (drop (4 * i) bs))) i (length-numbers i bs)
    ∙ sym (append_snoc (numbers_in i bs) (number_in (take 4 (drop (4 * i) bs))) (replicate (m - (i + 1)) 0))
    ∙ ap (λ ns. ns ++ replicate (m - (i + 1)) 0) (sym (numbers-snoc i bs) ∙ ap (λ j. numbers_in j bs) (sym (add-one i)))
  where
    lower : m - i ≡ suc (m - (i + 1))
    lower = omega arith

-- the array is full
pub numbers-all : (m i : ℕ) (bs : List ℕ) → i ≡ m → numbers_in i bs ++ replicate (m - i) 0 ≡ numbers_in m bs
numbers-all m i bs e = ap₂ (λ j k. numbers_in j bs ++ replicate k 0) e none ∙ append-nil (numbers_in m bs)
  where
    none : m - i ≡ 0
    none = omega arith
