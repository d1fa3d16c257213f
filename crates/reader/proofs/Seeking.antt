-- Nine bits that no position of a number has: what `headless` and `seek` go by. Assumes nothing.
use Rattle.std.proofs.Common.{◌≡◌, ℕ, zero, suc, ◌+◌, ◌-◌, ◌*◌, ◌/◌, ◌%◌, ◌^◌, ◌<◌, ◌≤◌, Bool, List, length, take, drop, sym, refl, ap, ◌∙◌, ap₂, lt_of_lt_of_le, mod-lt, add_comm, arith, pow_pos, pow_mono, shr-shr}
use native.Mathlib.Nat.{div-eq_of_lt}
use lib.Bits.{bit_and, bit_xor, and_shr, xor_shr, and_mod, xor_mod}
use lib.Count.{count_leading_zeros, leading_le, leading_length}
use lib.Pow.{shl-shr, field, mod-mod-pow}
use Rattle.bits.specs.Bits.{number}
use Rattle.reader.specs.Cells.{cell_bits, pair_at}
use Rattle.reader.specs.Hunting.{hunt_of, Headless}
use Rattle.reader.specs.declared.Tally.{Tally}
use Rattle.reader.proofs.Buffer.{number-nine}
use Rattle.reader.proofs.Steps.{step-seek}

-- ones where neighbours are unlike; where that changes; two and four such places in a row; seven, the last unlike
abbrev pub unlike : ℕ → ℕ
unlike n = bit_xor n (n / 2 ^ 1)

abbrev pub turns : ℕ → ℕ
turns n = bit_xor (unlike n) (unlike n / 2 ^ 1)

abbrev pub two : ℕ → ℕ
two n = bit_and (turns n) (turns n / 2 ^ 1)

abbrev pub four : ℕ → ℕ
four n = bit_and (two n) (two n / 2 ^ 2)

abbrev pub heads : ℕ → ℕ
heads n = bit_and (bit_and (unlike n) (four n)) (four n / 2 ^ 3)

-- shifts go in any order
swap : (n j k : ℕ) → n / 2 ^ j / 2 ^ k ≡ n / 2 ^ k / 2 ^ j
swap n j k = shr-shr n j k ∙ ap (λ e. n / 2 ^ e) (add_comm j k) ∙ sym (shr-shr n k j)

module _ (n s : ℕ) where
  unlike-shr : unlike n / 2 ^ s ≡ unlike (n / 2 ^ s)
  unlike-shr = xor_shr n (n / 2 ^ 1) s ∙ ap (bit_xor (n / 2 ^ s)) (swap n 1 s)

  turns-shr : turns n / 2 ^ s ≡ turns (n / 2 ^ s)
  turns-shr = xor_shr (unlike n) (unlike n / 2 ^ 1) s ∙ ap₂ bit_xor unlike-shr (swap (unlike n) 1 s ∙ ap (λ x. x / 2 ^ 1) unlike-shr)

  two-shr : two n / 2 ^ s ≡ two (n / 2 ^ s)
  two-shr = and_shr (turns n) (turns n / 2 ^ 1) s ∙ ap₂ bit_and turns-shr (swap (turns n) 1 s ∙ ap (λ x. x / 2 ^ 1) turns-shr)

  four-shr : four n / 2 ^ s ≡ four (n / 2 ^ s)
  four-shr = and_shr (two n) (two n / 2 ^ 2) s ∙ ap₂ bit_and two-shr (swap (two n) 2 s ∙ ap (λ x. x / 2 ^ 2) two-shr)

  heads-shr : heads n / 2 ^ s ≡ heads (n / 2 ^ s)
  heads-shr =
      and_shr (bit_and (unlike n) (four n)) (four n / 2 ^ 3) s
      ∙ ap₂ bit_and (and_shr (unlike n) (four n) s ∙ ap₂ bit_and unlike-shr four-shr) (swap (four n) 3 s ∙ ap (λ x. x / 2 ^ 3) four-shr)

-- the lowest nine bits of a preamble leave a one lowest
module _ (x : ℕ) (e : unlike x % 2 ^ 8 ≡ 85) where
  turns-is : turns x % 2 ^ 7 ≡ 127
  turns-is = xor_mod (unlike x) (unlike x / 2 ^ 1) 7 ∙ ap₂ bit_xor a b
    where
      a : unlike x % 2 ^ 7 ≡ 85
      a = omega (arith, e)

      b : unlike x / 2 ^ 1 % 2 ^ 7 ≡ 42
      b = omega (arith, e)

  two_is : two x % 2 ^ 6 ≡ 63
  two_is = and_mod (turns x) (turns x / 2 ^ 1) 6 ∙ ap₂ bit_and a b
    where
      a : turns x % 2 ^ 6 ≡ 63
      a = omega (arith, turns-is)

      b : turns x / 2 ^ 1 % 2 ^ 6 ≡ 63
      b = omega (arith, turns-is)

  four_is : four x % 2 ^ 4 ≡ 15
  four_is = and_mod (two x) (two x / 2 ^ 2) 4 ∙ ap₂ bit_and a b
    where
      a : two x % 2 ^ 4 ≡ 15
      a = omega (arith, two_is)

      b : two x / 2 ^ 2 % 2 ^ 4 ≡ 15
      b = omega (arith, two_is)

  heads-is : heads x % 2 ^ 1 ≡ 1
  heads-is =
      and_mod (bit_and (unlike x) (four x)) (four x / 2 ^ 3) 1
      ∙ ap₂ bit_and (and_mod (unlike x) (four x) 1 ∙ ap₂ bit_and a b) c
    where
      a : unlike x % 2 ^ 1 ≡ 1
      a = omega (arith, e)

      b : four x % 2 ^ 1 ≡ 1
      b = omega (arith, four_is)

      c : four x / 2 ^ 3 % 2 ^ 1 ≡ 1
      c = omega (arith, four_is)

upright : (x : ℕ) → x % 512 ≡ 102 → unlike x % 2 ^ 8 ≡ 85
upright x h = xor_mod x (x / 2 ^ 1) 8 ∙ ap₂ bit_xor a b
  where
    a : x % 2 ^ 8 ≡ 102
    a = omega (arith, h)

    b : x / 2 ^ 1 % 2 ^ 8 ≡ 51
    b = omega (arith, h)

turned : (x : ℕ) → x % 512 ≡ 409 → unlike x % 2 ^ 8 ≡ 85
turned x h = xor_mod x (x / 2 ^ 1) 8 ∙ ap₂ bit_xor a b
  where
    a : x % 2 ^ 8 ≡ 153
    a = omega (arith, h)

    b : x / 2 ^ 1 % 2 ^ 8 ≡ 204
    b = omega (arith, h)

-- NO HEADS, NO PREAMBLE
pub headless-law : (n o z : ℕ) → o < 32 → z ≡ count_leading_zeros 64 (heads n * 2 ^ (9 + o) % 2 ^ 64) → (z ≤ 64) × Headless n o z
headless-law n o z ho e =
    (omega (arith, e, leading_le 64 x), λ s l u. (λ h. absurd (never s l u (upright (n / 2 ^ s) h)), λ h. absurd (never s l u (turned (n / 2 ^ s) h))))
  where
    a : ℕ
    a = 9 + o

    x : ℕ
    x = heads n * 2 ^ (9 + o) % 2 ^ 64

    t : (m : ℕ) × (count_leading_zeros 64 x + m ≡ 64) × (x < 2 ^ m) × (2 ^ m ≤ 2 * x + 1)
    t = leading_length 64 x (mod-lt _ (pow_pos 64))

    -- a bit of the heads among the bits of x
    zero-at : (s : ℕ) → s + o ≤ 54 → 55 ≤ s + o + z → heads n / 2 ^ s % 2 ^ (55 - (s + o)) ≡ 0
    zero-at s l u =
        ap (λ (y : ℕ). y % 2 ^ (55 - (s + o))) (ap (λ (y : ℕ). y / 2 ^ s) (sym (shl-shr (heads n) a)) ∙ shr-shr (heads n * 2 ^ a) a s)
        ∙ sym (field (heads n * 2 ^ a) (55 - (s + o)) (a + s))
        ∙ ap (λ (y : ℕ). heads n * 2 ^ a % 2 ^ y / 2 ^ (a + s)) wide
        ∙ div-eq_of_lt (lt_of_lt_of_le t.2 (pow_mono far))
      where
        wide : 55 - (s + o) + (a + s) ≡ 64
        wide = omega (arith, l)

        far : t.0 ≤ a + s
        far = omega (arith, t.1, e, u)

    never : (s : ℕ) → s + o ≤ 54 → 55 ≤ s + o + z → unlike (n / 2 ^ s) % 2 ^ 8 ≡ 85 → ⊥
    never s l u q =
        let one = ap (λ (y : ℕ). y % 2 ^ 1) (heads-shr n s) ∙ heads-is (n / 2 ^ s) q in
        let none = sym (mod-mod-pow (heads n / 2 ^ s) (54 - (s + o)) 1) ∙ ap (λ (y : ℕ). heads n / 2 ^ s % 2 ^ y % 2 ^ 1) (up s l)
        ∙ ap (λ (y : ℕ). y % 2 ^ 1) (zero-at s l u) in
        omega (arith, one, none)
      where
        up : (s : ℕ) → s + o ≤ 54 → 54 - (s + o) + 1 ≡ 55 - (s + o)
        up s l = omega (arith, l)

-- positions that two cells show to have no preamble, one after the other
pub seek-past : (cells : List ℕ) (len : length cells ≡ 40) (end : ℕ) (top : end ≤ 1280) (left : ℕ) (low : left ≤ end) (both z : ℕ)
    → both ≡ pair_at cells ((end - left) / 32) → Headless both ((end - left) % 32) z
    → (k l : ℕ) → l + k ≡ left → 31 ≤ l → k ≤ z → (end - left) % 32 + k ≤ 55 → (ended : Bool) (t : Tally)
    → hunt_of cells end left 0 ended t ≡ hunt_of cells end l 0 ended t
seek-past cells len end top left low both z is none zero l e r g f ended t = ap (λ n. hunt_of cells end n 0 ended t) (omega (arith, e))
seek-past cells len end top left low both z is none (suc k) l e r g f ended t =
    seek-past cells len end top left low both z is none k (suc l) (omega (arith, e)) (omega (arith, r)) (omega (arith, g)) (omega (arith, f)) ended t
    ∙ step-seek cells len end top (suc l) (omega (arith, e, low)) ended t 0 _ refl (omega (arith, r)) at (none s near far).0 (none s near far).1
    ∙ ap (λ n. hunt_of cells end n 0 ended t) down
  where
    o : ℕ
    o = (end - left) % 32 + k

    s : ℕ
    s = 54 - o

    near : s + (end - left) % 32 ≤ 54
    near = omega (arith, f)

    far : 55 ≤ s + (end - left) % 32 + z
    far = omega (arith, f, g)

    down : suc l - 1 ≡ l
    down = omega arith

    at : both / 2 ^ s % 512 ≡ number (take 9 (drop (end - suc l + 1) (cell_bits cells)))
    at =
        ap (λ n. n / 2 ^ s % 512) is
        ∙ number-nine cells ((end - left) / 32) o (end - suc l) len (omega arith) (omega (arith, f)) (omega (arith, e, low)) (omega (arith, r, e, low))
