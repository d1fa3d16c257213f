-- The xor law holds of windows as bits by the laws of `word`, and of windows as numbers through their 32 bits. Assumes nothing.
use mathlib.Core.Path.{◌≡◌, refl, sym, ap, ◌∙◌}
use mathlib.Core.Bool.{true, false, true≢false}
use Prim.Native.Nat.{ℕ, ◌%◌, ◌^◌}
use lib.Bits.{bit_xor, xor_zero_r}
use lib.Count.{ones}
use borrow.Author.Tests.{eq-eqb}
use Rattle.bits.specs.Bits.{◌⊕◌, odd, is_odd, bits, number}
use Rattle.bits.proofs.Numbers.{length-bits, bits-xor, number-xor, odd-ones}
use Rattle.word.specs.Word.{rows, places, parity, data_of, received, computed, remainder_of, passes}
use Rattle.word.specs.Answer.{remainder_at}
use Rattle.word.proofs.Linearity.{remainder-xor, remainder-turned}
use Rattle.word.proofs.Distance.{odd-turned}
use Rattle.word.proofs.Testing.{six-long, ones_odd, odd-told}
use Rattle.promises.specs.XorLaw.{XorLaw}

-- ---- of numbers

xor-number : (v w : ℕ) → remainder_at (bit_xor v w) ≡ bit_xor (remainder_at v) (remainder_at w)
xor-number v w =
    ap (λ l. number (remainder_of l)) (bits-xor 32 v w)
    ∙ ap number (remainder-xor (bits 32 v) (bits 32 w))
    ∙ number-xor 6 (remainder_of (bits 32 v)) (remainder_of (bits 32 w)) (six-long (bits 32 v)) (six-long (bits 32 w))

all_ones : remainder_at 0xFFFFFFFF ≡ 0
unfolding bits number rows places parity data_of received computed remainder_of
all_ones = refl

turned-at : (w : ℕ) → remainder_at (bit_xor w 0xFFFFFFFF) ≡ remainder_at w
turned-at w = xor-number w 0xFFFFFFFF ∙ ap (bit_xor (remainder_at w)) all_ones ∙ xor_zero_r (remainder_at w)

-- a window of remainder 0 passes
passes_at_lem : (v : ℕ) → remainder_at v ≡ 0 → passes (bits 32 v) ≡ true
unfolding passes
passes_at_lem v z = eq-eqb (remainder_at v) 0 z

-- ---- an odd number of turned bits

-- the bits in which two windows differ
ones-xor : (v w : ℕ) → is_odd (ones (bit_xor v w % 2 ^ 32)) ≡ odd (bits 32 v ⊕ bits 32 w)
ones-xor v w = odd-ones 32 (bit_xor v w) ∙ ap odd (bits-xor 32 v w)

told_at : (v w : ℕ) → remainder_at v ≡ 0 → is_odd (ones (remainder_at w)) ≡ is_odd (ones (bit_xor v w % 2 ^ 32))
told_at v w z =
    ones_odd (remainder_at w) (bits 32 w) refl
    ∙ odd-told (bits 32 v) (bits 32 w) (length-bits 32 v) (length-bits 32 w) (passes_at_lem v z)
    ∙ sym (ones-xor v w)

refused-at : (v w : ℕ) → remainder_at v ≡ 0 → is_odd (ones (bit_xor v w % 2 ^ 32)) ≡ true → remainder_at w ≡ 0 → ⊥
refused-at v w z o y = true≢false (sym o ∙ sym (told_at v w z) ∙ ap (λ n. is_odd (ones n)) y ∙ none)
  where
    none : is_odd (ones 0) ≡ false
    none = unfold ones in refl

pub xor-law : XorLaw
xor-law = record {
  windows = remainder-xor;
  numbers = xor-number;
  turned = remainder-turned;
  turned-number = turned-at;
  odd_refused = odd-turned;
  odd-refused-number = refused-at;
  odd-told = odd-told;
  odd-told-number = told_at;
}
