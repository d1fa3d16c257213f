-- Whether a number stands in a list again: what one turn of the loop says, and the same by numbers of the list. Assumes nothing.
use mathlib.Core.Path.{◌≡◌, refl, sym, ap, ◌∙◌}
use mathlib.Core.Bool.{true, false, ◌||◌, true≢false}
use mathlib.Core.List.{List, [], ◌∷◌}
use Prim.Native.Nat.{ℕ, zero, suc, ◌+◌, ◌-◌, ◌≤◌, ◌<◌}
use native.Mathlib.Numerals.{add-one}
use native.Mathlib.Omega.{arith}
use lib.Dec.{eqb}
use lib.ListN.{length, take, drop, get_or, drop_of_length-le, length-drop}
use lib.Seq.{drop-cons, take_all}
use borrow.Author.Tests.{eq-eqb, ne_eqb}
use Rattle.frame.specs.Widths.{any_of}
use Rattle.frame.proofs.WidthLaws.{both_false}
use Rattle.profile.specs.Profile.{repeated}

-- ---- one turn of the loop

module _ (i : ℕ) (xs : List ℕ) where
  repeated-turn : i < length xs → repeated (drop i xs) ≡ any_of (eqb (get_or xs i 0)) (drop (i + 1) xs) || repeated (drop (i + 1) xs)
  unfolding repeated
  repeated-turn l =
      ap repeated (drop-cons xs i 0 l) ∙ ap (λ j. any_of (eqb (get_or xs i 0)) (drop j xs) || repeated (drop j xs)) (sym (add-one i))

  pub repeated-hit : i < length xs → any_of (eqb (get_or xs i 0)) (drop (i + 1) xs) ≡ true → repeated (drop i xs) ≡ true
  repeated-hit l e = repeated-turn l ∙ ap (λ b. b || repeated (drop (i + 1) xs)) e

  pub repeated-miss : i < length xs → any_of (eqb (get_or xs i 0)) (drop (i + 1) xs) ≡ false → repeated (drop i xs) ≡ repeated (drop (i + 1) xs)
  repeated-miss l e = repeated-turn l ∙ ap (λ b. b || repeated (drop (i + 1) xs)) e

  pub repeated-end : length xs ≤ i → repeated (drop i xs) ≡ false
  unfolding repeated
  repeated-end l = ap repeated (drop_of_length-le xs {i = i} l)

-- the numbers behind the one at i
pub behind : (i : ℕ) (xs : List ℕ) → drop (i + 1) xs ≡ take (length xs - (i + 1)) (drop (i + 1) xs)
behind i xs = sym (take_all (length xs - (i + 1)) (drop (i + 1) xs) (omega (arith, length-drop (i + 1) xs)))

-- ---- by numbers of the list

-- a number that is not in a list is at none of its places, and back
any_told : (x : ℕ) (xs : List ℕ) (j : ℕ) → any_of (eqb x) xs ≡ false → j < length xs → x ≡ get_or xs j 0 → ⊥
any_told x [] j e l q = absurd (omega arith)
any_told x (y ∷ ys) zero e l q = true≢false (sym (eq-eqb x y q) ∙ (both_false (eqb x y) (any_of (eqb x) ys) e).0)
any_told x (y ∷ ys) (suc j) e l q = any_told x ys j (both_false (eqb x y) (any_of (eqb x) ys) e).1 (omega arith) q

any_none : (x : ℕ) (xs : List ℕ) → ((j : ℕ) → j < length xs → x ≡ get_or xs j 0 → ⊥) → any_of (eqb x) xs ≡ false
any_none x [] h = refl
any_none x (y ∷ ys) h = rw (ne_eqb x y (h 0 (omega arith)), any_none x ys (λ j l. h (suc j) (omega arith)))

-- no two places have the same number
abbrev pub Apart : List ℕ → Type 0
Apart xs = (i j : ℕ) → i < j → j < length xs → get_or xs i 0 ≡ get_or xs j 0 → ⊥

pub apart-told : (xs : List ℕ) → repeated xs ≡ false → Apart xs
unfolding repeated
apart-told [] e i j l m q = absurd (omega arith)
apart-told (x ∷ xs) e zero zero l m q = absurd (omega arith)
apart-told (x ∷ xs) e zero (suc j) l m q = any_told x xs j (both_false (any_of (eqb x) xs) (repeated xs) e).0 (omega arith) q
apart-told (x ∷ xs) e (suc i) zero l m q = absurd (omega arith)
apart-told (x ∷ xs) e (suc i) (suc j) l m q =
    apart-told xs (both_false (any_of (eqb x) xs) (repeated xs) e).1 i j (omega arith) (omega arith) q

pub apart-fine : (xs : List ℕ) → Apart xs → repeated xs ≡ false
unfolding repeated
apart-fine [] h = refl
apart-fine (x ∷ xs) h =
    rw (any_none x xs (λ j l. h 0 (suc j) (omega arith) (omega arith)), apart-fine xs (λ i j l m. h (suc i) (suc j) (omega arith) (omega arith)))
