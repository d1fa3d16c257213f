-- Five bytes as one number: what `thirty_of` computes keeps xor, as the six bits of each byte do, so one test at each single bit says that its sixes are
-- those of the bytes; and one mask tells of all five whether they carry any. Assumes nothing.
use Rattle.std.proofs.Common.{◌≡◌, ℕ, ◌+◌, ◌*◌, ◌/◌, ◌%◌, ◌^◌, ◌<◌, Bool, true, false, ◌&&◌, eqb, [], ◌∷◌, reverse, sym, refl, ap, ◌∙◌, ap₂, arith, eq-eqb, ne_eqb, eqb-true}
use lib.Bits.{bit_and, bit_xor, xor_shifted}
use borrow.Author.Tests.{eqb-false}
use Rattle.bits.specs.Bits.{bits, number}
use Rattle.bits.proofs.Numbers.{bits-xor, bits-mod, number-xor}
use Rattle.line.specs.Line.{six}
use Rattle.line.proofs.LineLaws.{six-lt}
use Rattle.reader.specs.Five.{byte_at, five_bytes, all_data, sixes_in, sixes_of}
use Rattle.reader.proofs.Bursting.{thirty}
use Rattle.reader.proofs.XorMaps.{Sum, self, by-test, s-xor, s-and, s-shr, s-mod, s-shl, up, s-up}

-- two lists of five
pub five-same : {a b c d e a' b' c' d' e' : ℕ} → a ≡ a' → b ≡ b' → c ≡ c' → d ≡ d' → e ≡ e'
    → a ∷ b ∷ c ∷ d ∷ e ∷ [] ≡ a' ∷ b' ∷ c' ∷ d' ∷ e' ∷ []
five-same p q r s t = ap₂ ◌∷◌ p (ap₂ ◌∷◌ q (ap₂ ◌∷◌ r (ap₂ ◌∷◌ s (ap (λ x. x ∷ []) t))))

-- each byte has its place
pub joined-law : (a b c d e n : ℕ) → a < 256 → b < 256 → c < 256 → d < 256 → e < 256
    → n ≡ a + b * 256 + c * 65536 + d * 16777216 + e * 4294967296 → (n < 2 ^ 40) × (five_bytes n ≡ a ∷ b ∷ c ∷ d ∷ e ∷ [])
joined-law a b c d e n ha hb hc hd he is =
    (omega arith, five-same (omega arith) (omega (arith, one)) (omega (arith, two)) (omega (arith, three)) (omega (arith, four)))
  where
    one : n / 2 ^ 8 ≡ b + c * 256 + d * 65536 + e * 16777216
    one = omega arith

    two : n / 2 ^ 16 ≡ c + d * 256 + e * 65536
    two = omega arith

    three : n / 2 ^ 24 ≡ d + e * 256
    three = omega arith

    four : n / 2 ^ 32 ≡ e
    four = omega arith

-- ---- thirty bits

-- the bits under a mask and those k above them change places
abbrev swapped : ℕ → ℕ → ℕ → ℕ
swapped k m n = bit_xor (bit_and (n / 2 ^ k) m) (up k (bit_and n m))

-- the bits of each byte turned round, and of each the six highest
abbrev mirrored_sixes : ℕ → ℕ
mirrored_sixes n = bit_and (swapped 4 64677154575 (swapped 2 219902325555 (swapped 1 366503875925 n)) / 2 ^ 2) 271644049215

-- sixes pushed together, that of the lowest byte highest
abbrev together : ℕ → ℕ
together n =
    bit_xor (bit_xor (up 24 (bit_and n 63)) (up 10 (bit_and n 16128)))
    (bit_xor (bit_and n 4128768 / 2 ^ 4) (bit_xor (bit_and n 1056964608 / 2 ^ 18) (n / 2 ^ 32)))

s-swapped : (k m : ℕ) {a b c : ℕ} → Sum a b c → Sum (swapped k m a) (swapped k m b) (swapped k m c)
s-swapped k m p = s-xor (s-and m (s-shr k p)) (s-up k (s-and m p))

s-mirrored : {a b c : ℕ} → Sum a b c → Sum (mirrored_sixes a) (mirrored_sixes b) (mirrored_sixes c)
s-mirrored p = s-and 271644049215 (s-shr 2 (s-swapped 4 64677154575 (s-swapped 2 219902325555 (s-swapped 1 366503875925 p))))

s-together : {a b c : ℕ} → Sum a b c → Sum (together a) (together b) (together c)
s-together p =
    s-xor (s-xor (s-up 24 (s-and 63 p)) (s-up 10 (s-and 16128 p)))
    (s-xor (s-shr 4 (s-and 4128768 p)) (s-xor (s-shr 18 (s-and 1056964608 p)) (s-shr 32 p)))

-- the six bits of a byte
abbrev six_number : ℕ → ℕ
six_number b = number (six b)

s-six : {a b c : ℕ} → Sum a b c → Sum (six_number a) (six_number b) (six_number c)
unfolding six bits
s-six {a} {b} p = record {
  is = ap six_number p.is ∙ ap (λ l. number (reverse l)) (bits-xor 6 a b)
      ∙ number-xor 6 (reverse (bits 6 a)) (reverse (bits 6 b)) refl refl;
}

abbrev sixes_xor : ℕ → ℕ
sixes_xor n =
    bit_xor (six_number n * 2 ^ 24) (bit_xor (six_number (n / 2 ^ 8) * 2 ^ 18) (bit_xor (six_number (n / 2 ^ 16) * 2 ^ 12)
    (bit_xor (six_number (n / 2 ^ 24) * 2 ^ 6) (six_number (n / 2 ^ 32)))))

s-sixes : {a b c : ℕ} → Sum a b c → Sum (sixes_xor a) (sixes_xor b) (sixes_xor c)
s-sixes p =
    s-xor (s-shl 24 (s-six p)) (s-xor (s-shl 18 (s-six (s-shr 8 p))) (s-xor (s-shl 12 (s-six (s-shr 16 p)))
    (s-xor (s-shl 6 (s-six (s-shr 24 p))) (s-six (s-shr 32 p)))))

together-sixes : (n : ℕ) → n < 2 ^ 40 → together (mirrored_sixes n) ≡ sixes_xor n
unfolding bits number six
together-sixes = by-test (λ n. together (mirrored_sixes n)) sixes_xor (λ a b. s-together (s-mirrored (self a b))) (λ a b. s-sixes (self a b)) 40 refl

-- parts that do not meet are added
five-parts : (a b c d e : ℕ) → a < 64 → b < 64 → c < 64 → d < 64 → e < 64
    → bit_xor (a * 2 ^ 24) (bit_xor (b * 2 ^ 18) (bit_xor (c * 2 ^ 12) (bit_xor (d * 2 ^ 6) e))) ≡ thirty a b c d e
five-parts a b c d e ha hb hc hd he = fourth ∙ sums
  where
    first : bit_xor (d * 2 ^ 6) e ≡ d * 2 ^ 6 + e
    first = xor_shifted d 6 e he

    second : bit_xor (c * 2 ^ 12) (bit_xor (d * 2 ^ 6) e) ≡ c * 2 ^ 12 + (d * 2 ^ 6 + e)
    second = ap (bit_xor (c * 2 ^ 12)) first ∙ xor_shifted c 12 (d * 2 ^ 6 + e) (omega (arith, hd, he))

    third : bit_xor (b * 2 ^ 18) (bit_xor (c * 2 ^ 12) (bit_xor (d * 2 ^ 6) e)) ≡ b * 2 ^ 18 + (c * 2 ^ 12 + (d * 2 ^ 6 + e))
    third = ap (bit_xor (b * 2 ^ 18)) second ∙ xor_shifted b 18 (c * 2 ^ 12 + (d * 2 ^ 6 + e)) (omega (arith, hc, hd, he))

    fourth : bit_xor (a * 2 ^ 24) (bit_xor (b * 2 ^ 18) (bit_xor (c * 2 ^ 12) (bit_xor (d * 2 ^ 6) e)))
        ≡ a * 2 ^ 24 + (b * 2 ^ 18 + (c * 2 ^ 12 + (d * 2 ^ 6 + e)))
    fourth = ap (bit_xor (a * 2 ^ 24)) third ∙ xor_shifted a 24 (b * 2 ^ 18 + (c * 2 ^ 12 + (d * 2 ^ 6 + e))) (omega (arith, hb, hc, hd, he))

    sums : a * 2 ^ 24 + (b * 2 ^ 18 + (c * 2 ^ 12 + (d * 2 ^ 6 + e))) ≡ thirty a b c d e
    sums = omega arith

thirty-low : (a b c d e : ℕ) → a < 64 → b < 64 → c < 64 → d < 64 → e < 64 → thirty a b c d e < 2 ^ 30
thirty-low a b c d e ha hb hc hd he = omega arith

thirty-sixes : (a b c d e : ℕ) → a < 64 → b < 64 → c < 64 → d < 64 → e < 64 → sixes_of (thirty a b c d e) ≡ a ∷ b ∷ c ∷ d ∷ e ∷ []
thirty-sixes a b c d e ha hb hc hd he = five-same (omega arith) (omega arith) (omega arith) (omega arith) (omega arith)

-- a byte is the lowest of what is left above it
six_low : (m : ℕ) → six_number m ≡ six_number (m % 256)
unfolding six
six_low m = ap (λ l. number (reverse l)) (sym (bits-mod 6 m) ∙ ap (bits 6) same ∙ bits-mod 6 (m % 256))
  where
    same : m % 2 ^ 6 ≡ m % 256 % 2 ^ 6
    same = omega arith

sixes-are : (n t : ℕ) → n < 2 ^ 40 → t ≡ together (mirrored_sixes n) → (t < 2 ^ 30) × (sixes_of t ≡ sixes_in (five_bytes n))
sixes-are n t h e = (rw is (thirty-low a b c d f la lb lc ld lf), ap sixes_of is ∙ thirty-sixes a b c d f la lb lc ld lf ∙ each)
  where
    a : ℕ
    a = six_number n

    b : ℕ
    b = six_number (n / 2 ^ 8)

    c : ℕ
    c = six_number (n / 2 ^ 16)

    d : ℕ
    d = six_number (n / 2 ^ 24)

    f : ℕ
    f = six_number (n / 2 ^ 32)

    la : six_number n < 64
    la = six-lt n

    lb : six_number (n / 2 ^ 8) < 64
    lb = six-lt (n / 2 ^ 8)

    lc : six_number (n / 2 ^ 16) < 64
    lc = six-lt (n / 2 ^ 16)

    ld : six_number (n / 2 ^ 24) < 64
    ld = six-lt (n / 2 ^ 24)

    lf : six_number (n / 2 ^ 32) < 64
    lf = six-lt (n / 2 ^ 32)

    is : t ≡ thirty a b c d f
    is = e ∙ together-sixes n h ∙ five-parts a b c d f la lb lc ld lf

    each : a ∷ b ∷ c ∷ d ∷ f ∷ [] ≡ sixes_in (five_bytes n)
    each = five-same (six_low n ∙ ap (λ m. six_number (m % 256)) none) (six_low (n / 2 ^ 8)) (six_low (n / 2 ^ 16)) (six_low (n / 2 ^ 24)) (six_low (n / 2 ^ 32))
      where
        none : n ≡ n / 2 ^ 0
        none = omega arith

-- THE SIXES OF THE THIRTY BITS are those of the bytes
pub thirty-law : (n : ℕ) → n < 2 ^ 40 → (together (mirrored_sixes n) < 2 ^ 30) × (sixes_of (together (mirrored_sixes n)) ≡ sixes_in (five_bytes n))
thirty-law n h = sixes-are n (together (mirrored_sixes n)) h refl

-- ---- whether each carries line bits

-- the two top bits of a byte
abbrev top : ℕ → ℕ → ℕ
top k n = byte_at k n / 2 ^ 6

s-top : (k : ℕ) {a b c : ℕ} → Sum a b c → Sum (top k a) (top k b) (top k c)
s-top k p = s-shr 6 (s-mod 8 (s-shr (8 * k) p))

abbrev tops_of : ℕ → ℕ
tops_of n = bit_xor (top 4 n * 2 ^ 38) (bit_xor (top 3 n * 2 ^ 30) (bit_xor (top 2 n * 2 ^ 22) (bit_xor (top 1 n * 2 ^ 14) (top 0 n * 2 ^ 6))))

masked : (n : ℕ) → n < 2 ^ 40 → bit_and n 827867578560 ≡ tops_of n
masked =
    by-test (λ n. bit_and n 827867578560) tops_of (λ a b. s-and 827867578560 (self a b))
    (λ a b.
    let p = self a b in
    s-xor (s-shl 38 (s-top 4 p)) (s-xor (s-shl 30 (s-top 3 p)) (s-xor (s-shl 22 (s-top 2 p)) (s-xor (s-shl 14 (s-top 1 p)) (s-shl 6 (s-top 0 p)))))) 40 refl

-- the parts do not meet
tops-sum : (p q r s t : ℕ) → q < 4 → r < 4 → s < 4 → t < 4
    → bit_xor (p * 2 ^ 38) (bit_xor (q * 2 ^ 30) (bit_xor (r * 2 ^ 22) (bit_xor (s * 2 ^ 14) (t * 2 ^ 6))))
    ≡ (t + (s + (r + (q + p * 256) * 256) * 256) * 256) * 64
tops-sum p q r s t hq hr hs ht =
    ap (λ x. bit_xor (p * 2 ^ 38) (bit_xor (q * 2 ^ 30) (bit_xor (r * 2 ^ 22) x))) (xor_shifted s 14 (t * 2 ^ 6) (omega (arith, ht)))
    ∙ ap (λ x. bit_xor (p * 2 ^ 38) (bit_xor (q * 2 ^ 30) x)) (xor_shifted r 22 (s * 2 ^ 14 + t * 2 ^ 6) (omega (arith, hs, ht)))
    ∙ ap (bit_xor (p * 2 ^ 38)) (xor_shifted q 30 (r * 2 ^ 22 + (s * 2 ^ 14 + t * 2 ^ 6)) (omega (arith, hr, hs, ht)))
    ∙ xor_shifted p 38 (q * 2 ^ 30 + (r * 2 ^ 22 + (s * 2 ^ 14 + t * 2 ^ 6))) (omega (arith, hq, hr, hs, ht)) ∙ sums
  where
    sums : p * 2 ^ 38 + (q * 2 ^ 30 + (r * 2 ^ 22 + (s * 2 ^ 14 + t * 2 ^ 6))) ≡ (t + (s + (r + (q + p * 256) * 256) * 256) * 256) * 64
    sums = omega arith

-- the lowest of them is 1, and so are the others
lowest : (t m c : ℕ) → t < 4 → eqb (t + m * 256) (1 + c * 256) ≡ eqb t 1 && eqb m c
lowest t m c l = go (eqb t 1) (eqb m c) refl refl
  where
    go : (u v : Bool) → eqb t 1 ≡ u → eqb m c ≡ v → eqb (t + m * 256) (1 + c * 256) ≡ u && v
    go true true et em = eq-eqb (t + m * 256) (1 + c * 256) (omega (arith, eqb-true t 1 et, eqb-true m c em))
    go true false et em = ne_eqb (t + m * 256) (1 + c * 256) (λ z. eqb-false m c em (omega (arith, eqb-true t 1 et)))
    go false v et em = ne_eqb (t + m * 256) (1 + c * 256) (λ z. eqb-false t 1 et (omega arith))

times_64 : (x y : ℕ) → eqb (x * 64) (y * 64) ≡ eqb x y
times_64 x y = go (eqb x y) refl
  where
    go : (u : Bool) → eqb x y ≡ u → eqb (x * 64) (y * 64) ≡ u
    go true e = eq-eqb (x * 64) (y * 64) (omega (arith, eqb-true x y e))
    go false e = ne_eqb (x * 64) (y * 64) (λ z. eqb-false x y e (omega arith))

last_one : (b : Bool) → b ≡ b && true
last_one true = refl
last_one false = refl

all_one : (p q r s t : ℕ) → q < 4 → r < 4 → s < 4 → t < 4
    → eqb ((t + (s + (r + (q + p * 256) * 256) * 256) * 256) * 64) 275955859520 ≡ eqb t 1 && (eqb s 1 && (eqb r 1 && (eqb q 1 && (eqb p 1 && true))))
all_one p q r s t hq hr hs ht =
    times_64 (t + (s + (r + (q + p * 256) * 256) * 256) * 256) 4311810305
    ∙ lowest t (s + (r + (q + p * 256) * 256) * 256) 16843009 ht
    ∙ ap (λ b. eqb t 1 && b) (lowest s (r + (q + p * 256) * 256) 65793 hs
    ∙ ap (λ b. eqb s 1 && b) (lowest r (q + p * 256) 257 hr
    ∙ ap (λ b. eqb r 1 && b) (lowest q p 1 hq ∙ ap (λ b. eqb q 1 && b) (last_one (eqb p 1)))))

-- THE MASK tells whether each byte carries line bits
pub mask-law : (n : ℕ) → n < 2 ^ 40 → eqb (bit_and n 827867578560) 275955859520 ≡ all_data (five_bytes n)
mask-law n h =
    ap (λ x. eqb x 275955859520) (masked n h ∙ tops-sum (top 4 n) (top 3 n) (top 2 n) (top 1 n) (top 0 n) (low 3) (low 2) (low 1) (low 0))
    ∙ all_one (top 4 n) (top 3 n) (top 2 n) (top 1 n) (top 0 n) (low 3) (low 2) (low 1) (low 0)
  where
    low : (k : ℕ) → top k n < 4
    low k = omega arith
