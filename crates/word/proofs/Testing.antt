-- What the word test says: it is the remainder, it passes exactly where the definition does, and the ones of what it fails with are odd exactly
-- where an odd number of the 32 bits were turned. Assumes nothing.
use mathlib.Core.Path.{◌≡◌, refl, sym, ap, ◌∙◌}
use mathlib.Core.Bool.{Bool, true, false, cond}
use mathlib.Core.List.{List}
use Prim.Native.Nat.{ℕ, ◌^◌, ◌<◌}
use native.Mathlib.Nat.{mod-eq_of_lt}
use native.Mathlib.Omega.{arith}
use lib.ListN.{length}
use lib.Count.{ones}
use borrow.Author.Tests.{eqb-false, eq-eqb, ne_eqb}
use Rattle.bits.specs.Bits.{◌⊻◌, ◌⊕◌, odd, is_odd, bits, number}
use Rattle.bits.proofs.Xor.{length-xors, odd-xors}
use Rattle.bits.proofs.Numbers.{odd-ones, bits-number, number_lt}
use Rattle.word.specs.Word.{remainder_of, received, computed, parity, passes}
use Rattle.word.specs.Answer.{tested_by, says_tested}
use Rattle.word.proofs.Linearity.{remainder-xor, passes-zero}
use Rattle.word.proofs.Distance.{odd-remainder}
use Rattle.std.specs.Prelude.{Result, Ok, Err}

pub six-long : (w : List Bool) → length (remainder_of w) ≡ 6
unfolding remainder_of received computed parity
six-long w = refl

remainder-number : (w : List Bool) → bits 6 (number (remainder_of w)) ≡ remainder_of w
remainder-number w = bits-number 6 (remainder_of w) (six-long w)

below : (r : ℕ) (w : List Bool) → r ≡ number (remainder_of w) → r < 2 ^ 6
below r w e = let n = rw (six-long w) at (number_lt (remainder_of w)) in omega (arith, n)

-- by the two answers
by-test : (w : List Bool) (P : Result (Unit {0}) ℕ → Type 0) → (passes w ≡ true → P (Ok tt)) → (passes w ≡ false → P (Err (number (remainder_of w)))) → P (tested_by w)
by-test w P f g = go (passes w) refl
  where
    go : (t : Bool) → passes w ≡ t → P (cond t (Ok tt) (Err (number (remainder_of w))))
    go true e = f e
    go false e = g e

-- the remainder decides
pub zero-passes : (r : ℕ) (w : List Bool) → r ≡ number (remainder_of w) → r ≡ 0 → (Ok tt) ≡ tested_by w
unfolding passes
zero-passes r w e z = simp (eq-eqb (number (remainder_of w)) 0 (sym e ∙ z))

pub other-fails : (r : ℕ) (w : List Bool) → r ≡ number (remainder_of w) → (r ≡ 0 → ⊥) → Err r ≡ tested_by w
unfolding passes
other-fails r w e z = simp (ne_eqb (number (remainder_of w)) 0 (λ n. z (e ∙ n)), e)

-- IT SAYS THE REMAINDER
pub tested-says : (w : List Bool) → says_tested (tested_by w) ≡ remainder_of w
tested-says w = by-test w (λ t. says_tested t ≡ remainder_of w) (λ p. sym ((passes-zero w).0 p)) (λ p. remainder-number w)

-- PASSED exactly where the word passes ..
pub tested-passed : (w : List Bool) → tested_by w ≡ (Ok tt) → passes w ≡ true
tested-passed w = by-test w (λ t. t ≡ (Ok tt) → passes w ≡ true) (λ p e. p) (λ p e. absurd (let z : ◌≡◌ {A = ℕ} 0 1 = cc in omega arith))

-- .. and else failed with the remainder, which is never 0
pub record FailedWith (w : List Bool) (r : ℕ) : Type 0 where
  pub fails : passes w ≡ false
  pub is : r ≡ number (remainder_of w)
  pub some : r ≡ 0 → ⊥

pub tested-failed : (w : List Bool) (r : ℕ) → tested_by w ≡ Err r → FailedWith w r
unfolding passes
tested-failed w r = by-test w (λ t. t ≡ Err r → FailedWith w r) (λ p e. absurd (let z : ◌≡◌ {A = ℕ} 0 1 = cc in omega arith))
    (λ p e. record { fails = p; is = with_it e; some = λ z. eqb-false (number (remainder_of w)) 0 p (sym (with_it e) ∙ z) })
  where
    with_it : ◌≡◌ {A = Result (Unit {0}) ℕ} (Err (number (remainder_of w))) (Err r) → r ≡ number (remainder_of w)
    with_it e = cc

-- ITS ONES, counted modulo two
pub ones_odd : (r : ℕ) (w : List Bool) → r ≡ number (remainder_of w) → is_odd (ones r) ≡ odd (remainder_of w)
ones_odd r w e =
    ap (λ n. is_odd (ones n)) (sym (mod-eq_of_lt (below r w e))) ∙ odd-ones 6 r ∙ ap odd (ap (bits 6) e ∙ remainder-number w)

-- A NICK: of a word that passed, an odd number of bits turned leaves an odd number of ones, an even number an even one
pub odd-told : (v w : List Bool) → length v ≡ 32 → length w ≡ 32 → passes v ≡ true → odd (remainder_of w) ≡ odd (v ⊕ w)
odd-told v w lv lw p =
    ap (λ r. odd r ⊻ odd (remainder_of w)) (sym ((passes-zero v).0 p))
    ∙ sym (ap odd (remainder-xor v w) ∙ odd-xors (remainder_of v) (remainder_of w))
    ∙ odd-remainder (v ⊕ w) (length-xors v w (lv ∙ sym lw) ∙ lw)
