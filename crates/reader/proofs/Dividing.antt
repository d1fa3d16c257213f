-- The word test by division, two words at once: what `left_over` computes keeps xor, as the two remainders do, so one test at each single bit says that
-- it has a share of each; and a share is zero exactly where its remainder is. Assumes nothing.
use Rattle.std.proofs.Common.{◌≡◌, ℕ, ◌+◌, ◌*◌, ◌/◌, ◌%◌, ◌^◌, ◌<◌, Bool, true, false, ◌&&◌, eqb, List, [], ◌∷◌, sym, refl, ap, ◌∙◌, ap₂, arith, eq-eqb, ne_eqb, eqb-true}
use lib.Bits.{bit_and, bit_xor, xor_shifted}
use borrow.Author.Tests.{eqb-false}
use Rattle.bits.specs.Bits.{bits, number}
use Rattle.bits.proofs.Numbers.{number_lt, bits-xor, bits-mod, number-xor}
use Rattle.word.specs.Word.{remainder_of, received, computed, parity, data_of, passes}
use Rattle.word.specs.Answer.{remainder_at}
use Rattle.word.proofs.Linearity.{remainder-xor}
use Rattle.word.proofs.Testing.{six-long}
use Rattle.reader.proofs.XorMaps.{Sum, self, by-test, s-xor, s-and, s-shr, s-mod, s-shl, up, s-up, s-bit, lin, s-lin}

-- ---- the division

-- of each half D29* D30* D1 to D24, D27 D28 D29, D25 D26
abbrev pub turned_round : ℕ → ℕ
turned_round n = bit_xor (bit_and (n / 2 ^ 1) 9223371901563305952) (bit_xor (bit_and (up 1 n) 120259084316) (bit_and (n / 2 ^ 4) 12884901891))

-- times a polynomial of five terms
abbrev pub five_times : ℕ → ℕ → ℕ → ℕ → ℕ → ℕ
five_times i j k l v = bit_xor v (bit_xor (up i v) (bit_xor (up j v) (bit_xor (up k v) (up l v))))

-- where D30 is one, the six bits of its half
abbrev pub even_bits : ℕ → ℕ
even_bits n = bit_xor (n % 2 * 2113929216) (n / 2 ^ 32 % 2 * 9079256848778919936)

abbrev pub left_over : ℕ → ℕ
left_over n = bit_and (bit_xor (five_times 4 5 13 15 (five_times 1 7 9 10 (turned_round n))) (even_bits n)) 9079256850892849152

s-five : (i j k l : ℕ) {a b c : ℕ} → Sum a b c → Sum (five_times i j k l a) (five_times i j k l b) (five_times i j k l c)
s-five i j k l p = s-xor p (s-xor (s-up i p) (s-xor (s-up j p) (s-xor (s-up k p) (s-up l p))))

s-round : {a b c : ℕ} → Sum a b c → Sum (turned_round a) (turned_round b) (turned_round c)
s-round p = s-xor (s-and 9223371901563305952 (s-shr 1 p)) (s-xor (s-and 120259084316 (s-up 1 p)) (s-and 12884901891 (s-shr 4 p)))

s-even : {a b c : ℕ} → Sum a b c → Sum (even_bits a) (even_bits b) (even_bits c)
s-even p = s-xor (s-bit 2113929216 p) (s-bit 9079256848778919936 (s-shr 32 p))

s-left : {a b c : ℕ} → Sum a b c → Sum (left_over a) (left_over b) (left_over c)
s-left p = s-and 9079256850892849152 (s-xor (s-five 4 5 13 15 (s-five 1 7 9 10 (s-round p))) (s-even p))

s-remainder : {a b c : ℕ} → Sum a b c → Sum (remainder_at a) (remainder_at b) (remainder_at c)
unfolding remainder_of received computed parity
s-remainder {a} {b} p = record {
  is = ap remainder_at p.is ∙ ap (λ w. number (remainder_of w)) (bits-xor 32 a b) ∙ ap number (remainder-xor (bits 32 a) (bits 32 b))
      ∙ number-xor 6 (remainder_of (bits 32 a)) (remainder_of (bits 32 b)) refl refl;
}

-- ---- a share of each remainder

-- what each bit of a remainder gives, and what each bit of a share says of its remainder
abbrev there : List ℕ
there = 63 ∷ 7 ∷ 14 ∷ 28 ∷ 1 ∷ 3 ∷ []

abbrev back : List ℕ
back = 16 ∷ 48 ∷ 34 ∷ 22 ∷ 60 ∷ 41 ∷ []

abbrev share : ℕ → ℕ
share w = lin there (remainder_at w)

abbrev shares : ℕ → ℕ
shares n = bit_xor (share (n / 2 ^ 32) * 2 ^ 57) (share n * 2 ^ 25)

left-shares : (n : ℕ) → n < 2 ^ 64 → left_over n ≡ shares n
unfolding bits number remainder_of received computed parity data_of
left-shares =
    by-test left_over shares (λ a b. s-left (self a b))
    (λ a b. s-xor (s-shl 57 (s-lin there (s-remainder (s-shr 32 (self a b))))) (s-shl 25 (s-lin there (s-remainder (self a b))))) 64 refl

-- a share is below 64, and settles its remainder
share-low : (r : ℕ) → r < 2 ^ 6 → lin there r ≡ lin there r % 2 ^ 6
share-low = by-test (lin there) (λ r. lin there r % 2 ^ 6) (λ a b. s-lin there (self a b)) (λ a b. s-mod 6 (s-lin there (self a b))) 6 refl

share_back : (r : ℕ) → r < 2 ^ 6 → r ≡ lin back (lin there r)
share_back = by-test (λ r. r) (λ r. lin back (lin there r)) self (λ a b. s-lin back (s-lin there (self a b))) 6 refl

remainder-lt : (n : ℕ) → remainder_at n < 2 ^ 6
remainder-lt n = rw (six-long (bits 32 n)) at (number_lt (remainder_of (bits 32 n)))

share-law : (n : ℕ) → eqb (share n) 0 ≡ passes (bits 32 n)
unfolding passes
share-law n = go (eqb (remainder_at n) 0) refl
  where
    go : (t : Bool) → eqb (remainder_at n) 0 ≡ t → eqb (share n) 0 ≡ t
    go true e = eq-eqb (share n) 0 (ap (lin there) (eqb-true (remainder_at n) 0 e))
    go false e = ne_eqb (share n) 0 (λ z. eqb-false (remainder_at n) 0 e (share_back (remainder_at n) (remainder-lt n) ∙ ap (lin back) z))

-- both shares are zero where nothing is left
both_zero : (a b : ℕ) → a < 2 ^ 6 → eqb (bit_xor (b * 2 ^ 57) (a * 2 ^ 25)) 0 ≡ eqb a 0 && eqb b 0
both_zero a b l = ap (λ n. eqb n 0) (xor_shifted b 57 (a * 2 ^ 25) (omega arith)) ∙ go (eqb a 0) (eqb b 0) refl refl
  where
    go : (s t : Bool) → eqb a 0 ≡ s → eqb b 0 ≡ t → eqb (b * 2 ^ 57 + a * 2 ^ 25) 0 ≡ s && t
    go true true ea eb = eq-eqb (b * 2 ^ 57 + a * 2 ^ 25) 0 (omega (arith, eqb-true a 0 ea, eqb-true b 0 eb))
    go true false ea eb = ne_eqb (b * 2 ^ 57 + a * 2 ^ 25) 0 (λ z. eqb-false b 0 eb (omega arith))
    go false t ea eb = ne_eqb (b * 2 ^ 57 + a * 2 ^ 25) 0 (λ z. eqb-false a 0 ea (omega arith))

-- NOTHING IS LEFT OVER exactly where both windows pass
pub left-law : (one two n : ℕ) → one < 2 ^ 32 → two < 2 ^ 32 → n ≡ one + two * 2 ^ 32
    → eqb (left_over n) 0 ≡ passes (bits 32 one) && passes (bits 32 two)
left-law one two n h l e =
    ap (λ x. eqb x 0) (left-shares n (omega arith)) ∙ both_zero (share n) (share (n / 2 ^ 32)) low
    ∙ ap₂ ◌&&◌ (share-law n ∙ ap passes first) (share-law (n / 2 ^ 32) ∙ ap (λ w. passes (bits 32 w)) second)
  where
    low : share n < 2 ^ 6
    low = omega (arith, share-low (remainder_at n) (remainder-lt n))

    first : bits 32 n ≡ bits 32 one
    first = sym (bits-mod 32 n) ∙ ap (bits 32) rest
      where
        rest : n % 2 ^ 32 ≡ one
        rest = omega arith

    second : n / 2 ^ 32 ≡ two
    second = omega arith
