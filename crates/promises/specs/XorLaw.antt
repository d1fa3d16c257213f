-- THE XOR LAW of the word test, for those who compare two receivers: of windows as bits, first sent first, and of windows as numbers, by the very
-- definition that the contract of `word::remainder` cites. A window is a word with the two bits before it. Assumes nothing.
use Rattle.std.specs.Prelude.{◌≡◌, Bool, true, false, not, List, map, ℕ, ◌%◌, ◌^◌, length}
use Rattle.std.specs.Int.Bits.{bit_xor}
use Rattle.std.specs.Int.Count.{ones}
use Rattle.bits.specs.Bits.{◌⊕◌, odd, is_odd}
use Rattle.word.specs.Word.{remainder_of, passes}
use Rattle.word.specs.Answer.{remainder_at}

pub record XorLaw : Type 0 where
  -- "the remainder of the xor is the xor of the remainders", of lists of any length and of any numbers
  pub windows : (v w : List Bool) → remainder_of (v ⊕ w) ≡ remainder_of v ⊕ remainder_of w
  pub numbers : (v w : ℕ) → remainder_at (bit_xor v w) ≡ bit_xor (remainder_at v) (remainder_at w)
  -- "turning all 32 keeps the remainder"
  pub turned : (w : List Bool) → length w ≡ 32 → remainder_of (map not w) ≡ remainder_of w
  pub turned-number : (w : ℕ) → remainder_at (bit_xor w 0xFFFFFFFF) ≡ remainder_at w
  -- "any odd number of turned bits in a good window is refused": v is good, and w differs from it in an odd number of bits
  pub odd_refused : (v w : List Bool) → length v ≡ 32 → length w ≡ 32 → passes v ≡ true → odd (v ⊕ w) ≡ true → passes w ≡ false
  pub odd-refused-number : (v w : ℕ) → remainder_at v ≡ 0 → is_odd (ones (bit_xor v w % 2 ^ 32)) ≡ true → remainder_at w ≡ 0 → ⊥
  -- and the ones of its remainder are odd in number exactly when the turned bits are
  pub odd-told : (v w : List Bool) → length v ≡ 32 → length w ≡ 32 → passes v ≡ true → odd (remainder_of w) ≡ odd (v ⊕ w)
  pub odd-told-number : (v w : ℕ) → remainder_at v ≡ 0 → is_odd (ones (remainder_at w)) ≡ is_odd (ones (bit_xor v w % 2 ^ 32))
