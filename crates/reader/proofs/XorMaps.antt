-- Maps of numbers that keep xor: shifts, masks and what is made of them. Two of them that agree at each single bit agree. Assumes nothing.
use Rattle.std.proofs.Common.{◌≡◌, ℕ, zero, suc, ◌+◌, ◌-◌, ◌*◌, ◌/◌, ◌%◌, ◌^◌, ◌<◌, ◌≤◌, Bool, true, false, ◌&&◌, eqb, List, [], ◌∷◌, sym, refl, ap, ◌∙◌, ap₂, lt_of_le_of_lt, mod-eq_of_lt, pow-suc, arith, pow_pos, eqb-true}
use mathlib.Core.Bool.{and-eq-true_iff}
use native.Mathlib.Decide.{dec_lt}
use lib.Bits.{bit_and, bit_xor, and_lt, and_shr, xor_lt, xor_shr, xor_mod, xor_block, xor_self, xor_zero_l, xor_zero_r, xor_shifted}
use Rattle.bits.specs.Bits.{◌⊻◌, ◌⊕◌, is_odd, bits, number}
use Rattle.bits.proofs.Xor.{xor-four, odd-xor, odd-and}
use Rattle.bits.proofs.Numbers.{number-bits, bits-xor}

-- ---- numbers combined by xor

lists-four : (k a b c d : ℕ) → bits k a ⊕ bits k b ⊕ (bits k c ⊕ bits k d) ≡ bits k a ⊕ bits k c ⊕ (bits k b ⊕ bits k d)
unfolding bits
lists-four zero a b c d = refl
lists-four (suc k) a b c d =
    ap₂ ◌∷◌ (xor-four (is_odd (a / 2 ^ k)) (is_odd (b / 2 ^ k)) (is_odd (c / 2 ^ k)) (is_odd (d / 2 ^ k))) (lists-four k a b c d)

below-pow : (n : ℕ) → n < 2 ^ n
below-pow zero = omega arith
below-pow (suc n) = omega (arith, below-pow n, pow-suc 2 n)

up_to : (n k : ℕ) → n ≤ k → n < 2 ^ k
up_to n k h = lt_of_le_of_lt h (below-pow k)

-- numbers below 2^k are their k bits
from_bits : (k x y : ℕ) → x < 2 ^ k → y < 2 ^ k → bits k x ≡ bits k y → x ≡ y
from_bits k x y h l e = sym (mod-eq_of_lt h) ∙ sym (number-bits k x) ∙ ap number e ∙ number-bits k y ∙ mod-eq_of_lt l

xors-four : (a b c d : ℕ) → bit_xor (bit_xor a b) (bit_xor c d) ≡ bit_xor (bit_xor a c) (bit_xor b d)
xors-four a b c d =
    from_bits k _ _ (xor_lt k _ _ (xor_lt k a b la lb) (xor_lt k c d lc ld)) (xor_lt k _ _ (xor_lt k a c la lc) (xor_lt k b d lb ld))
    (bits-xor k (bit_xor a b) (bit_xor c d) ∙ ap₂ ◌⊕◌ (bits-xor k a b) (bits-xor k c d) ∙ lists-four k a b c d
    ∙ sym (bits-xor k (bit_xor a c) (bit_xor b d) ∙ ap₂ ◌⊕◌ (bits-xor k a c) (bits-xor k b d)))
  where
    k : ℕ
    k = a + b + c + d

    la : a < 2 ^ (a + b + c + d)
    la = up_to a (a + b + c + d) (omega arith)

    lb : b < 2 ^ (a + b + c + d)
    lb = up_to b (a + b + c + d) (omega arith)

    lc : c < 2 ^ (a + b + c + d)
    lc = up_to c (a + b + c + d) (omega arith)

    ld : d < 2 ^ (a + b + c + d)
    ld = up_to d (a + b + c + d) (omega arith)

and-over : (a b m : Bool) → (a ⊻ b) && m ≡ (a && m) ⊻ (b && m)
and-over true true true = refl
and-over true false true = refl
and-over false true true = refl
and-over false false true = refl
and-over true true false = refl
and-over true false false = refl
and-over false true false = refl
and-over false false false = refl

masked-bits : (k a b m : ℕ) → bits k (bit_and (bit_xor a b) m) ≡ bits k (bit_xor (bit_and a m) (bit_and b m))
unfolding bits
masked-bits zero a b m = refl
masked-bits (suc k) a b m = ap₂ ◌∷◌ (ap is_odd shifted ∙ at (a / 2 ^ k) (b / 2 ^ k) (m / 2 ^ k) ∙ sym (ap is_odd apart)) (masked-bits k a b m)
  where
    shifted : bit_and (bit_xor a b) m / 2 ^ k ≡ bit_and (bit_xor (a / 2 ^ k) (b / 2 ^ k)) (m / 2 ^ k)
    shifted = and_shr (bit_xor a b) m k ∙ ap (λ n. bit_and n (m / 2 ^ k)) (xor_shr a b k)

    apart : bit_xor (bit_and a m) (bit_and b m) / 2 ^ k ≡ bit_xor (bit_and (a / 2 ^ k) (m / 2 ^ k)) (bit_and (b / 2 ^ k) (m / 2 ^ k))
    apart = xor_shr (bit_and a m) (bit_and b m) k ∙ ap₂ bit_xor (and_shr a m k) (and_shr b m k)

    at : (x y z : ℕ) → is_odd (bit_and (bit_xor x y) z) ≡ is_odd (bit_xor (bit_and x z) (bit_and y z))
    at x y z =
        odd-and (bit_xor x y) z ∙ ap (λ t. t && is_odd z) (odd-xor x y) ∙ and-over (is_odd x) (is_odd y) (is_odd z)
        ∙ sym (odd-xor (bit_and x z) (bit_and y z) ∙ ap₂ ◌⊻◌ (odd-and x z) (odd-and y z))

and_xor : (a b m : ℕ) → bit_and (bit_xor a b) m ≡ bit_xor (bit_and a m) (bit_and b m)
and_xor a b m =
    from_bits k _ _ (and_lt k _ m (xor_lt k a b la lb) lm) (xor_lt k _ _ (and_lt k a m la lm) (and_lt k b m lb lm)) (masked-bits k a b m)
  where
    k : ℕ
    k = a + b + m

    la : a < 2 ^ (a + b + m)
    la = up_to a (a + b + m) (omega arith)

    lb : b < 2 ^ (a + b + m)
    lb = up_to b (a + b + m) (omega arith)

    lm : m < 2 ^ (a + b + m)
    lm = up_to m (a + b + m) (omega arith)

-- ---- maps of numbers that keep xor

-- c is the xor of a and b
pub record Sum (a b c : ℕ) : Type 0 where
  pub is : c ≡ bit_xor a b

pub self : (a b : ℕ) → Sum a b (bit_xor a b)
self a b = record { is = refl }

abbrev pub Keeps : (ℕ → ℕ) → Type 0
Keeps f = (a b : ℕ) → Sum (f a) (f b) (f (bit_xor a b))

kept-zero : (f : ℕ → ℕ) → Keeps f → f 0 ≡ 0
kept-zero f h = (h 0 0).is ∙ xor_self (f 0)

-- two such maps that agree at each single bit agree
module _ (f g : ℕ → ℕ) (hf : Keeps f) (hg : Keeps g) where
  same : (k : ℕ) → ((i : ℕ) → i < k → f (2 ^ i) ≡ g (2 ^ i)) → (n : ℕ) → n < 2 ^ k → f n ≡ g n
  same zero e n l = ap f none ∙ kept-zero f hf ∙ sym (ap g none ∙ kept-zero g hg)
    where
      none : n ≡ 0
      none = omega arith
  same (suc k) e n l = go (dec_lt n (2 ^ k)) (same k (λ i b. e i (omega arith)))
    where
      go : Dec (n < 2 ^ k) → ((m : ℕ) → m < 2 ^ k → f m ≡ g m) → f n ≡ g n
      go (yes h) less-than = less-than n h
      go (no h) less-than =
          ap f is ∙ (hf (2 ^ k) (n - 2 ^ k)).is ∙ ap₂ bit_xor (e k (omega arith)) (less-than (n - 2 ^ k) less) ∙ sym (ap g is ∙ (hg (2 ^ k) (n - 2 ^ k)).is)
        where
          less : n - 2 ^ k < 2 ^ k
          less = omega (arith, h, l, pow-suc 2 k)

          is : n ≡ bit_xor (2 ^ k) (n - 2 ^ k)
          is = sum ∙ sym (xor_shifted 1 k (n - 2 ^ k) less) ∙ ap (λ m. bit_xor m (n - 2 ^ k)) one
            where
              sum : n ≡ 1 * 2 ^ k + (n - 2 ^ k)
              sum = omega (arith, h)

              one : 1 * 2 ^ k ≡ 2 ^ k
              one = omega arith

-- a test at each single bit
abbrev below : (ℕ → Bool) → ℕ → Bool
below t zero = true
below t (suc k) = t k && below t k

below_at : (t : ℕ → Bool) (k : ℕ) → below t k ≡ true → (i : ℕ) → i < k → t i ≡ true
below_at t zero e i h = absurd (omega arith)
below_at t (suc k) e i h = go (dec_lt i k) (below_at t k both.1 i)
  where
    both : (t k ≡ true) × (below t k ≡ true)
    both = (and-eq-true_iff (t k) (below t k)).0 e

    go : Dec (i < k) → (i < k → t i ≡ true) → t i ≡ true
    go (yes l) next = next l
    go (no l) next = ap t at ∙ both.0
      where
        at : i ≡ k
        at = omega (arith, l)

pub by-test : (f g : ℕ → ℕ) → Keeps f → Keeps g → (k : ℕ) → below (λ i. eqb (f (2 ^ i)) (g (2 ^ i))) k ≡ true → (n : ℕ) → n < 2 ^ k → f n ≡ g n
by-test f g hf hg k e = same f g hf hg k (λ i h. eqb-true (f (2 ^ i)) (g (2 ^ i)) (below_at (λ i. eqb (f (2 ^ i)) (g (2 ^ i))) k e i h))

-- ---- such maps

pub s-xor : {a b c d e f : ℕ} → Sum a b c → Sum d e f → Sum (bit_xor a d) (bit_xor b e) (bit_xor c f)
s-xor {a} {b} {c} {d} {e} {f} p q = record { is = ap₂ bit_xor p.is q.is ∙ xors-four a b d e }

pub s-and : (m : ℕ) {a b c : ℕ} → Sum a b c → Sum (bit_and a m) (bit_and b m) (bit_and c m)
s-and m {a} {b} p = record { is = ap (λ n. bit_and n m) p.is ∙ and_xor a b m }

pub s-shr : (k : ℕ) {a b c : ℕ} → Sum a b c → Sum (a / 2 ^ k) (b / 2 ^ k) (c / 2 ^ k)
s-shr k {a} {b} p = record { is = ap (λ n. n / 2 ^ k) p.is ∙ xor_shr a b k }

pub s-mod : (k : ℕ) {a b c : ℕ} → Sum a b c → Sum (a % 2 ^ k) (b % 2 ^ k) (c % 2 ^ k)
s-mod k {a} {b} p = record { is = ap (λ n. n % 2 ^ k) p.is ∙ xor_mod a b k }

pub s-shl : (k : ℕ) {a b c : ℕ} → Sum a b c → Sum (a * 2 ^ k) (b * 2 ^ k) (c * 2 ^ k)
s-shl k {a} {b} p = record {
  is = ap (λ n. n * 2 ^ k) p.is
      ∙ sym (ap₂ bit_xor (none a) (none b) ∙ xor_block k a b 0 0 (pow_pos k) (pow_pos k) ∙ ap (λ z. bit_xor a b * 2 ^ k + z) (xor_self 0)
      ∙ sym (none (bit_xor a b)));
}
  where
    none : (z : ℕ) → z * 2 ^ k ≡ z * 2 ^ k + 0
    none z = omega arith

-- a number of 64 bits moved up
abbrev pub up : ℕ → ℕ → ℕ
up k n = n * 2 ^ k % 2 ^ 64

pub s-up : (k : ℕ) {a b c : ℕ} → Sum a b c → Sum (up k a) (up k b) (up k c)
s-up k p = s-mod 64 (s-shl k p)

-- a bit of it, times m
no-times : (m : ℕ) → 0 * m ≡ 0
no-times m = omega arith

bit-times : (m x y : ℕ) → x < 2 → y < 2 → bit_xor x y * m ≡ bit_xor (x * m) (y * m)
bit-times m zero zero h l = no-times m ∙ sym (ap₂ bit_xor (no-times m) (no-times m))
bit-times m zero (suc zero) h l = sym (ap (λ z. bit_xor z (1 * m)) (no-times m) ∙ xor_zero_l (1 * m))
bit-times m (suc zero) zero h l = sym (ap (λ z. bit_xor (1 * m) z) (no-times m) ∙ xor_zero_r (1 * m))
bit-times m (suc zero) (suc zero) h l = no-times m ∙ sym (xor_self (1 * m))
bit-times m zero (suc (suc y)) h l = absurd (omega arith)
bit-times m (suc zero) (suc (suc y)) h l = absurd (omega arith)
bit-times m (suc (suc x)) y h l = absurd (omega arith)

pub s-bit : (m : ℕ) {a b c : ℕ} → Sum a b c → Sum (a % 2 * m) (b % 2 * m) (c % 2 * m)
s-bit m {a} {b} p = record {
  is = ap (λ n. n % 2 * m) p.is ∙ ap (λ n. n * m) (xor_mod a b 1) ∙ bit-times m (a % 2) (b % 2) (omega arith) (omega arith);
}

-- bits, the lowest first, each a column
abbrev pub lin : List ℕ → ℕ → ℕ
lin [] n = 0
lin (c ∷ cs) n = bit_xor (n % 2 * c) (lin cs (n / 2 ^ 1))

pub s-lin : (cs : List ℕ) {a b c : ℕ} → Sum a b c → Sum (lin cs a) (lin cs b) (lin cs c)
s-lin [] p = record { is = refl }
s-lin (m ∷ cs) p = s-xor (s-bit m p) (s-lin cs (s-shr 1 p))
