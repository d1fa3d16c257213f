-- The 32 own remainders: they are what the word test computes, all different, and every odd remainder is one of them. Assumes nothing.
use mathlib.Core.Path.{◌≡◌, refl, sym, ap, ◌∙◌}
use mathlib.Core.Bool.{Bool, true, false, not, ◌&&◌, ◌||◌, and-eq-true_iff}
use Prim.Native.Nat.{ℕ, zero, suc, ◌*◌, ◌-◌, ◌%◌, ◌^◌, ◌≤◌, ◌<◌}
use native.Mathlib.Nat.{le_of_suc-le-suc, not-suc-le-zero}
use native.Mathlib.Omega.{arith}
use lib.Dec.{ltb, eqb}
use lib.ListN.{get_or}
use borrow.Author.Tests.{eqb-true, ltb-true}
use Rattle.bits.specs.Bits.{weight, odd, bits, number}
use Rattle.word.specs.Word.{rows, parity, data_of, received, computed, remainder_of}
use Rattle.word.specs.Answer.{remainder_at}
use Rattle.mender_words.specs.Words.{own_remainders, place_in, place_of}

-- ---- a test of every number below a bound

abbrev every : (ℕ → Bool) → ℕ → Bool
every f zero = true
every f (suc n) = f zero && every (λ i. f (suc i)) n

from : (f : ℕ → Bool) (n : ℕ) → every f n ≡ true → (k : ℕ) → k < n → f k ≡ true
from f zero t k h = absurd (not-suc-le-zero h)
from f (suc n) t zero h = ((and-eq-true_iff (f zero) (every (λ i. f (suc i)) n)).0 t).0
from f (suc n) t (suc k) h = from (λ i. f (suc i)) n ((and-eq-true_iff (f zero) (every (λ i. f (suc i)) n)).0 t).1 k (le_of_suc-le-suc h)

-- bit i alone, as a window
abbrev pub alone : ℕ → ℕ
alone i = 2 ^ (31 - i)

-- ---- ITS OWN REMAINDER: one test over the 32
own : every (λ i. eqb (remainder_at (alone i)) (get_or own_remainders i 0)) 32 ≡ true
unfolding own_remainders remainder_of received computed parity data_of rows bits number
own = refl

pub own-remainder : (i : ℕ) → i < 32 → remainder_at (alone i) ≡ get_or own_remainders i 0
own-remainder i h = eqb-true (remainder_at (alone i)) (get_or own_remainders i 0) (from (λ j. eqb (remainder_at (alone j)) (get_or own_remainders j 0)) 32 own i h)

-- the first place of a place's remainder is that place
back : every (λ i. eqb (place_of (get_or own_remainders i 0)) i) 32 ≡ true
unfolding own_remainders place_in place_of
back = refl

pub own-place : (i : ℕ) → i < 32 → place_of (get_or own_remainders i 0) ≡ i
own-place i h = eqb-true (place_of (get_or own_remainders i 0)) i (from (λ j. eqb (place_of (get_or own_remainders j 0)) j) 32 back i h)

-- one bit alone
one : every (λ i. eqb (weight (bits 32 (alone i))) 1) 32 ≡ true
unfolding bits
one = refl

pub alone-one : (i : ℕ) → i < 32 → weight (bits 32 (alone i)) ≡ 1
alone-one i h = eqb-true (weight (bits 32 (alone i))) 1 (from (λ j. eqb (weight (bits 32 (alone j))) 1) 32 one i h)

low : every (λ i. ltb (alone i) (2 ^ 32)) 32 ≡ true
low = refl

pub alone-low : (i : ℕ) → i < 32 → alone i < 2 ^ 32
alone-low i h = ltb-true (alone i) (2 ^ 32) (from (λ j. ltb (alone j) (2 ^ 32)) 32 low i h)

-- ---- EVERY ODD REMAINDER IS ONE OF THEM: one test over the 64

abbrev held : ℕ → Bool
held r = ltb (place_of r) 32 && eqb (get_or own_remainders (place_of r) 0) r

odds : every (λ r. not (odd (bits 6 r)) || held r) 64 ≡ true
unfolding own_remainders place_in place_of bits
odds = refl

taken : (o t : Bool) → not o || t ≡ true → o ≡ true → t ≡ true
taken true t h o = h
taken false t h o = absurd (let z : ◌≡◌ {A = ℕ} 0 1 = cc in omega arith)

pub record Placed (r : ℕ) : Type 0 where
  pub low : place_of r < 32
  pub is : get_or own_remainders (place_of r) 0 ≡ r

pub every-place : (r : ℕ) → r < 64 → odd (bits 6 r) ≡ true → Placed r
every-place r h o = record {
  low = ltb-true (place_of r) 32 both.0;
  is = eqb-true (get_or own_remainders (place_of r) 0) r both.1;
}
  where
    both : (ltb (place_of r) 32 ≡ true) × (eqb (get_or own_remainders (place_of r) 0) r ≡ true)
    both =
        (and-eq-true_iff (ltb (place_of r) 32) (eqb (get_or own_remainders (place_of r) 0) r)).0
        (taken (odd (bits 6 r)) (held r) (from (λ s. not (odd (bits 6 s)) || held s) 64 odds r h) o)

-- ---- a bit whose remainder is asked for

-- a one shifted to its place
pub shifted : (i : ℕ) → i < 32 → 1 * alone i % 2 ^ 32 ≡ alone i
shifted i h = omega (arith, alone-low i h)

pub found : (i r : ℕ) → i < 32 → remainder_at (alone i) ≡ r → place_of r ≡ i
found i r h e = ap place_of (sym e ∙ own-remainder i h) ∙ own-place i h

-- what is not there is further on
pub further : (i r : ℕ) → i < 32 → Placed r → (remainder_at (alone i) ≡ r → ⊥) → i ≤ place_of r → suc i ≤ place_of r
further i r h p n l = omega (arith, there)
  where
    there : place_of r ≡ i → ⊥
    there e = n (own-remainder i h ∙ ap (λ k. get_or own_remainders k 0) (sym e) ∙ p.is)
