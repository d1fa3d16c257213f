-- Health codes and states: each code is read as one state within its widths, and written back as the same code.
-- Assumes nothing.
use mathlib.Core.Path.{◌≡◌, refl, sym, ap, ◌∙◌}
use mathlib.Core.Bool.{Bool, true, false, not, ◌&&◌, ◌||◌, cond, false≢true, and-eq-true_iff}
use mathlib.Core.List.{List, [], ◌∷◌}
use Prim.Native.Nat.{ℕ, zero, suc, ◌+◌, ◌≤◌, ◌<◌}
use native.Mathlib.Omega.{arith}
use lib.Dec.{ltb, eqb, eqb-suc-suc, eqb-zero-suc}
use lib.ListN.{length, get_or}
use borrow.Author.Tests.{ltb-true, ltb-false, eqb-true, lt-ltb, not-false}
use Rattle.std.specs.List.{position_or_len}
use Rattle.std.specs.Option.{unwrap_or}
use Rattle.std.specs.Prelude.{Option, Some, None}
use Rattle.std.proofs.lemmas.List.Recursion.{is_position_or_len}
use Rattle.frame.specs.Header.{factors, place_in, state_of, code_of}
use Rattle.frame.specs.Widths.{any_of, state_outside}
use Rattle.frame.specs.declared.State.{State}
use Rattle.frame.specs.declared.State.TheVariants.{Factor, Unmonitored, Down}

-- ---- a number's place in a list

pub place-le : (x : ℕ) (ys : List ℕ) → place_in x ys ≤ length ys
place-le x [] = omega arith
place-le x (y ∷ ys) = go (eqb x y) (place-le x ys)
  where
    go : (t : Bool) → place_in x ys ≤ length ys → cond t zero (suc (place_in x ys)) ≤ suc (length ys)
    go true h = omega arith
    go false h = omega arith

-- it is the list's length exactly where the list lacks the number
pub place-lacking : (x : ℕ) (ys : List ℕ) → eqb (place_in x ys) (length ys) ≡ not (any_of (eqb x) ys)
place-lacking x [] = refl
place-lacking x (y ∷ ys) = go (eqb x y) (place-lacking x ys)
  where
    go : (t : Bool) → eqb (place_in x ys) (length ys) ≡ not (any_of (eqb x) ys)
        → eqb (cond t zero (suc (place_in x ys))) (suc (length ys)) ≡ not (t || any_of (eqb x) ys)
    go true h = eqb-zero-suc (length ys)
    go false h = eqb-suc-suc (place_in x ys) (length ys) ∙ h

-- and elsewhere the number stands there
pub at_place : (x : ℕ) (ys : List ℕ) → any_of (eqb x) ys ≡ true → (place_in x ys < length ys) × (get_or ys (place_in x ys) 0 ≡ x)
at_place x [] e = absurd (false≢true e)
at_place x (y ∷ ys) e = go (eqb x y) refl e (at_place x ys)
  where
    go : (t : Bool) → eqb x y ≡ t → t || any_of (eqb x) ys ≡ true
        → (any_of (eqb x) ys ≡ true → (place_in x ys < length ys) × (get_or ys (place_in x ys) 0 ≡ x))
        → (cond t zero (suc (place_in x ys)) < suc (length ys)) × (get_or (y ∷ ys) (cond t zero (suc (place_in x ys))) 0 ≡ x)
    go true q h later = (omega arith, sym (eqb-true x y q))
    go false q h later = let l = later h in (omega arith, l.1)

-- as `position` finds it
pub place-found : (x : ℕ) (ys : List ℕ) (r : Option ℕ)
    → r ≡ cond (ltb (position_or_len (eqb x) ys) (length ys)) (Some (position_or_len (eqb x) ys)) None → unwrap_or r (length ys) ≡ place_in x ys
place-found x ys r e = ap (λ o. unwrap_or o (length ys)) e ∙ go (ltb place (length ys)) refl ∙ sym same
  where
    place : ℕ
    place = position_or_len (eqb x) ys

    one_more : (k : ℕ) → suc k ≡ 1 + k
    one_more k = omega arith

    same : place_in x ys ≡ place
    same = is_position_or_len (place_in x) (eqb x) refl (λ y zs. ap (cond (eqb x y) zero) (one_more (place_in x zs))) ys

    go : (t : Bool) → ltb place (length ys) ≡ t → unwrap_or (cond t (Some place) None) (length ys) ≡ place
    go true q = refl
    go false q = omega (arith, ltb-false place (length ys) q, same, place-le x ys)

-- ---- states and codes

-- a test at each number below n: at an n that is written out, this computes
abbrev each : (ℕ → Bool) → ℕ → Bool
each p zero = true
each p (suc n) = p zero && each (λ i. p (suc i)) n

each_below : (p : ℕ → Bool) (n : ℕ) → each p n ≡ true → (i : ℕ) → i < n → p i ≡ true
each_below p zero e i h = absurd (omega arith)
each_below p (suc n) e zero h = ((and-eq-true_iff (p zero) (each (λ i. p (suc i)) n)).0 e).0
each_below p (suc n) e (suc i) h = each_below (λ i. p (suc i)) n ((and-eq-true_iff (p zero) (each (λ i. p (suc i)) n)).0 e).1 i (omega arith)

pub length-factors : length factors ≡ 6
unfolding factors
length-factors = refl

pub code_lt : (s : State) → code_of s < 8
unfolding code_of
code_lt (Factor f) = omega (arith, place-le f factors, length-factors)
code_lt Unmonitored = omega arith
code_lt Down = omega arith

pub factor-outside : (f : ℕ) → eqb (place_in f factors) 6 ≡ state_outside (Factor f)
unfolding state_outside
factor-outside f = ap (eqb (place_in f factors)) (sym length-factors) ∙ place-lacking f factors

pub state-code : (s : State) → state_outside s ≡ false → state_of (code_of s) ≡ s
unfolding state_of code_of state_outside
state-code (Factor f) e =
    let p = at_place f factors (not-false (any_of (eqb f) factors) e) in
    let low : place_in f factors < 6 = omega (arith, length-factors) in
    rw (lt-ltb (place_in f factors) 6 low) (ap Factor p.1)
state-code Unmonitored e = refl
state-code Down e = refl

pub code-state : (c : ℕ) → c < 8 → code_of (state_of c) ≡ c
unfolding state_of code_of factors
code-state c h = eqb-true (code_of (state_of c)) c (each_below (λ d. eqb (code_of (state_of d)) d) 8 refl c h)

-- whatever the code
pub state-inside : (c : ℕ) → state_outside (state_of c) ≡ false
unfolding state_of state_outside factors
state-inside c = go (ltb c 6) (eqb c 6) refl
  where
    go : (t u : Bool) → ltb c 6 ≡ t → state_outside (cond t (Factor (get_or factors c 0)) (cond u Unmonitored Down)) ≡ false
    go true u e = ap not (each_below (λ d. any_of (eqb (get_or factors d 0)) factors) 6 refl c (ltb-true c 6 e))
    go false true e = refl
    go false false e = refl
