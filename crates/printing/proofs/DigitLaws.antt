-- Digits as they are counted and stored. Assumes nothing.
use mathlib.Core.Path.{◌≡◌, refl, sym, ap, ◌∙◌}
use mathlib.Core.Bool.{Bool, true, false, cond}
use mathlib.Core.List.{List, [], ◌∷◌, ◌++◌}
use Prim.Native.Nat.{max, ℕ, zero, suc, ◌+◌, ◌-◌, ◌/◌, ◌%◌, ◌*◌, ◌^◌, ◌≤◌, ◌<◌}
use native.Mathlib.Numerals.{add-one}
use native.Mathlib.Omega.{arith}
use lib.Dec.{ltb}
use lib.ListN.{length, set, drop, length-append}
use native.Mathlib.Nat.{pow-suc, one-le-pow}
use Rattle.std.proofs.lemmas.List.{append_assoc, drop-set}
use borrow.Author.Tests.{lt-ltb, le-ltb}
use Rattle.printing.specs.Printing.{last_digits, digits_up_to, decimal}

digits_le : (k n : ℕ) → digits_up_to k n ≤ k
unfolding digits_up_to
digits_le zero n = omega arith
digits_le (suc k) n = go (ltb n 10) (digits_le k (n / 10))
  where
    go : (t : Bool) → digits_up_to k (n / 10) ≤ k → cond t 1 (suc (digits_up_to k (n / 10))) ≤ suc k
    go true h = omega arith
    go false h = omega arith

length_digits : (k n : ℕ) → length (last_digits k n) ≡ k
unfolding last_digits
length_digits zero n = refl
length_digits (suc k) n = length-append (last_digits k (n / 10)) ((48 + n % 10) ∷ []) ∙ rw (length_digits k (n / 10)) (add-one k)

pub length-decimal : (n : ℕ) → length (decimal n) ≡ digits_up_to 20 n
unfolding decimal
length-decimal n = length_digits (digits_up_to 20 n) n

pub decimal-le : (n : ℕ) → length (decimal n) ≤ 20
decimal-le n = omega (arith, length-decimal n, digits_le 20 n)

-- a number's order of magnitude and one; 0 has the order 0
ten-le : (k : ℕ) → 10 ≤ 10 ^ suc k
ten-le k = omega (arith, pow-suc 10 k, one-le-pow k 10 (omega arith))

digits-order : (f n k : ℕ) → k < f → (0 < k → 10 ^ k ≤ n) → n < 10 * 10 ^ k → digits_up_to f n ≡ k + 1
unfolding digits_up_to
digits-order zero n k h lo hi = absurd (omega arith)
digits-order (suc f) n zero h lo hi = ap (λ t. cond t 1 (suc (digits_up_to f (n / 10)))) (lt-ltb n 10 (omega arith))
digits-order (suc f) n (suc k) h lo hi =
    ap (λ t. cond t 1 (suc (digits_up_to f (n / 10)))) (le-ltb n 10 (omega (arith, ten-le k, low)))
    ∙ ap suc (digits-order f (n / 10) k (omega arith) (λ p. omega (arith, next, low)) (omega (arith, next)))
    ∙ sums
  where
    next : 10 ^ suc k ≡ 10 ^ k * 10
    next = pow-suc 10 k

    low : 10 ^ suc k ≤ n
    low = lo (omega arith)

    sums : suc (k + 1) ≡ suc k + 1
    sums = omega arith

past-one : (n k : ℕ) → 10 ^ k ≤ max n 1 → 0 < k → 10 ^ k ≤ n
past-one n zero lo p = absurd (omega arith)
past-one n (suc k) lo p = omega (arith, ten-le k)

pub digits-counted : (n k m : ℕ) → m ≡ max n 1 → 10 ^ k ≤ m → m < 10 * 10 ^ k → k < 20 → k + 1 ≡ digits_up_to 20 n
digits-counted n k m e lo hi h = sym (digits-order 20 n k h (past-one n k (omega arith)) (omega arith))

-- the last of the digits that are left
pub store-digit : (l : List ℕ) (i left : ℕ) → 0 < i → i ≤ length l
    → last_digits i left ++ drop i l ≡ last_digits (i - 1) (left / 10) ++ drop (i - 1) (set l (i - 1) (48 + left % 10))
unfolding last_digits
store-digit l zero left h r = absurd (omega arith)
store-digit l (suc k) left h r =
    append_assoc (last_digits k (left / 10)) ((48 + left % 10) ∷ []) (drop (suc k) l)
    ∙ ap (λ r. last_digits k (left / 10) ++ r) (ap (λ j. (48 + left % 10) ∷ drop j l) (sym (add-one k)) ∙ sym (drop-set l k (48 + left % 10) (omega arith)))
    ∙ ap (λ j. last_digits j (left / 10) ++ drop j (set l j (48 + left % 10))) lower
  where
    lower : k ≡ suc k - 1
    lower = omega arith
