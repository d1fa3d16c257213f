-- Lists of bits and the numbers that they write, each law over the width. Assumes nothing.
use mathlib.Core.Path.{◌≡◌, refl, sym, ap, ap₂, ◌∙◌}
use mathlib.Core.Bool.{Bool, true, false}
use mathlib.Core.List.{List, [], ◌∷◌, ◌++◌}
use Prim.Native.Nat.{ℕ, zero, suc, ◌+◌, ◌*◌, ◌/◌, ◌%◌, ◌^◌, ◌<◌}
use native.Mathlib.Nat.{zero-add, suc-add, add_comm, mod-lt, mod-one, mod-eq_of_lt, pow-suc}
use native.Mathlib.Omega.{arith}
use native.Mathlib.Numerals.{one-add}
use lib.ListN.{length, take, drop, get_or, length-append}
use lib.Seq.{take_at, drop_at}
use lib.Pow.{pow_pos, pow-add, shr-shr, mod-pow-add, high, low}
use lib.Bits.{bit_xor, xor_shr, xor_lt}
use lib.Count.{ones, ones_cat}
use Rattle.bits.specs.Bits.{◌⊻◌, ◌⊕◌, odd, val, is_odd, bits, number}
use Rattle.bits.proofs.Xor.{val_inj, val-odd, odd-mod, odd-add, odd-xor}

-- ---- number and list are inverse

pub length-bits : (k n : ℕ) → length (bits k n) ≡ k
unfolding bits
length-bits zero n = refl
length-bits (suc k) n = ap suc (length-bits k n)

pub number-bits : (k n : ℕ) → number (bits k n) ≡ n % 2 ^ k
unfolding bits number
number-bits zero n = sym (mod-one n)
number-bits (suc k) n = rw (length-bits k n, number-bits k n, val-odd) (sym (rw one-add at (mod-pow-add n 1 k)))

pub number_lt : (bs : List Bool) → number bs < 2 ^ length bs
unfolding number
number_lt [] = omega arith
number_lt (true ∷ bs) = omega (arith, pow-suc 2 (length bs), number_lt bs)
number_lt (false ∷ bs) = omega (arith, pow-suc 2 (length bs), number_lt bs)

-- two lists of one length are equal if their numbers are
pub number-inj : (a b : List Bool) → length a ≡ length b → number a ≡ number b → a ≡ b
unfolding number
number-inj [] [] l e = refl
number-inj [] (y ∷ b) l e = absurd (omega arith)
number-inj (x ∷ a) [] l e = absurd (omega arith)
number-inj (x ∷ a) (y ∷ b) l e =
    let k : length b ≡ length a = omega arith in
    let ha = number_lt a in
    let hb : number b < 2 ^ length a = rw k at (number_lt b) in
    let e' : val x * 2 ^ length a + number a ≡ val y * 2 ^ length a + number b = rw k at e in
    let top : val x ≡ val y = sym (high (val x) (length a) ha) ∙ ap (λ n. n / 2 ^ length a) e' ∙ high (val y) (length a) hb in
    let end : number a ≡ number b = sym (low (val x) (length a) ha) ∙ ap (λ n. n % 2 ^ length a) e' ∙ low (val y) (length a) hb in
    ap₂ ◌∷◌ (val_inj top) (number-inj a b (sym k) end)

pub bits-number : (k : ℕ) (bs : List Bool) → length bs ≡ k → bits k (number bs) ≡ bs
bits-number k bs l =
    number-inj (bits k (number bs)) bs (length-bits k (number bs) ∙ sym l)
    (number-bits k (number bs) ∙ mod-eq_of_lt (rw l at (number_lt bs)))

pub bits-mod : (k n : ℕ) → bits k (n % 2 ^ k) ≡ bits k n
bits-mod k n =
    number-inj (bits k (n % 2 ^ k)) (bits k n) (length-bits k (n % 2 ^ k) ∙ sym (length-bits k n))
    (number-bits k (n % 2 ^ k) ∙ mod-eq_of_lt (mod-lt n (pow_pos k)) ∙ sym (number-bits k n))

-- ---- one list after another

-- the j + k low bits: j bits from k on, then the k low ones
pub bits-split : (j k n : ℕ) → bits (j + k) n ≡ bits j (n / 2 ^ k) ++ bits k n
unfolding bits
bits-split zero k n = rw zero-add
bits-split (suc j) k n = rw (suc-add, bits-split j k n, shr-shr n k j, add_comm k j)

pub number_append : (a b : List Bool) → number (a ++ b) ≡ number a * 2 ^ length b + number b
unfolding number
number_append [] b = omega arith
number_append (x ∷ a) b = rw (length-append a b, pow-add 2 (length a) (length b)) (omega (arith, number_append a b))

-- a after b's width
pub bits-append : (n m a b : ℕ) → b < 2 ^ m → bits (n + m) (a * 2 ^ m + b) ≡ bits n a ++ bits m b
bits-append n m a b h =
    bits-split n m (a * 2 ^ m + b) ∙ ap₂ ◌++◌ (ap (bits n) (high a m h)) (sym (bits-mod m (a * 2 ^ m + b)) ∙ ap (bits m) (low a m h))

-- the n highest of n + m bits
pub bits-take : (n m v : ℕ) → take n (bits (n + m) v) ≡ bits n (v / 2 ^ m)
bits-take n m v = ap (take n) (bits-split n m v) ∙ take_at (bits n (v / 2 ^ m)) (bits m v) n (length-bits n (v / 2 ^ m))

-- the low bits of the number that a list writes are the list's last
pub bits-last : (j k : ℕ) (s : List Bool) → length s ≡ j + k → bits k (number s) ≡ drop j s
bits-last j k s l =
    sym (drop_at (bits j (number s / 2 ^ k)) (bits k (number s)) j (length-bits j (number s / 2 ^ k)))
    ∙ ap (drop j) (sym (bits-split j k (number s)) ∙ bits-number (j + k) s l)

-- ---- xor, and the count of ones

pub bits-xor : (k a b : ℕ) → bits k (bit_xor a b) ≡ bits k a ⊕ bits k b
unfolding bits
bits-xor zero a b = refl
bits-xor (suc k) a b = ap₂ ◌∷◌ (ap is_odd (xor_shr a b k) ∙ odd-xor (a / 2 ^ k) (b / 2 ^ k)) (bits-xor k a b)

pub number-xor : (k : ℕ) (a b : List Bool) → length a ≡ k → length b ≡ k → number (a ⊕ b) ≡ bit_xor (number a) (number b)
number-xor k a b ha hb =
    ap number (ap₂ ◌⊕◌ (sym (bits-number k a ha)) (sym (bits-number k b hb)) ∙ sym (bits-xor k (number a) (number b)))
    ∙ number-bits k (bit_xor (number a) (number b))
    ∙ mod-eq_of_lt (xor_lt k (number a) (number b) (rw ha at (number_lt a)) (rw hb at (number_lt b)))

ones_bit : (m : ℕ) → m < 2 → ones m ≡ m
unfolding ones
ones_bit zero h = refl
ones_bit (suc zero) h = refl
ones_bit (suc (suc m)) h = absurd (omega arith)

-- the language's count of ones, modulo two
pub odd-ones : (k n : ℕ) → is_odd (ones (n % 2 ^ k)) ≡ odd (bits k n)
unfolding bits ones
odd-ones zero n = rw mod-one
odd-ones (suc k) n =
    ap (λ m. is_odd (ones m)) (rw one-add at (mod-pow-add n 1 k))
    ∙ ap is_odd (ones_cat k (n / 2 ^ k % 2) (n % 2 ^ k) (mod-lt n (pow_pos k)))
    ∙ odd-add (ones (n / 2 ^ k % 2)) (ones (n % 2 ^ k))
    ∙ ap₂ ◌⊻◌ (ap is_odd (ones_bit (n / 2 ^ k % 2) (omega arith)) ∙ odd-mod (n / 2 ^ k % 2) (n / 2 ^ k) (omega arith)) (odd-ones k n)

-- ---- a list by its bits

-- f 0, f 1, .. : at a length that is written out, this computes
abbrev pub tab : (ℕ → Bool) → ℕ → List Bool
tab f zero = []
tab f (suc n) = f zero ∷ tab (λ i. f (suc i)) n

pub tab-id : (bs : List Bool) → tab (λ i. get_or bs i false) (length bs) ≡ bs
tab-id [] = refl
tab-id (b ∷ bs) = ap (λ r. b ∷ r) (tab-id bs)
