-- Facts that the proofs of the list layouts' functions cite: the entries that N words hold, and the last checks of the orders.
-- Assumes nothing.
use mathlib.Core.Path.{◌≡◌, refl, ap, ◌∙◌}
use mathlib.Core.Bool.{true, false, not, ◌||◌}
use mathlib.Core.List.{[], ◌∷◌}
use Prim.Native.Nat.{ℕ, zero, suc, ◌+◌, ◌*◌, ◌-◌, ◌/◌, ◌≤◌, ◌<◌}
use native.Mathlib.Nat.{div-zero, zero-div, div-mul-le_self}
use native.Mathlib.Omega.{arith}
use lib.Dec.{ltb, eqb}
use borrow.Author.Tests.{lt-ltb, le-ltb, eq-eqb, ne_eqb, eqb-true, eqb-false, ltb-false, not-false}
use Rattle.std.specs.Int.{div_ceil}
use Rattle.answer.specs.Order.{in_order}
use Rattle.frame.proofs.WidthLaws.{both_false}
use Rattle.record_stages.specs.Stages.{held_after, misfit_after, wrong_count}

-- ---- the entries that N words hold behind a head of h bits

pub held-le : (h w n : ℕ) → held_after h w n * w ≤ 24 * n - h
held-le h w n = div-mul-le_self (24 * n - h) w

-- words of 24 bits, rounded up, as the code counts them
pub words-up : (x : ℕ) → div_ceil x 24 ≡ (x + 23) / 24
words-up x = omega arith

pub count-over : (h w n : ℕ) → 31 < n → misfit_after h w n ≡ true
unfolding misfit_after
count-over h w n l = rw (lt-ltb 31 n l)

pub count_none : (h w n : ℕ) → n ≤ 31 → held_after h w n ≡ 0 → misfit_after h w n ≡ true
unfolding misfit_after
count_none h w n l e = rw (le-ltb 31 n l, eq-eqb (held_after h w n) 0 e)

-- bits of no width are no entry, and behind a head that N words don't hold there is none
pub count-nothing : (h w n : ℕ) → n ≤ 31 → w ≡ 0 → misfit_after h w n ≡ true
count-nothing h w n l e = count_none h w n l (ap (λ v. held_after h v n) e ∙ div-zero (24 * n - h))

pub count-headless : (h w n : ℕ) → n ≤ 31 → 24 * n < h → misfit_after h w n ≡ true
count-headless h w n l s = count_none h w n l (ap (λ m. m / w) (sub-eq-zero (24 * n) h s) ∙ zero-div w)
  where
    sub-eq-zero : (a b : ℕ) → a < b → a - b ≡ 0
    sub-eq-zero a b s = omega arith

pub count-wrong : (h w n : ℕ) → n ≤ 31 → (held_after h w n ≡ 0 → ⊥) → ((h + held_after h w n * w + 23) / 24 ≡ n → ⊥) → misfit_after h w n ≡ true
unfolding misfit_after
count-wrong h w n l a b = rw (le-ltb 31 n l, ne_eqb (held_after h w n) 0 a, ne_eqb ((h + held_after h w n * w + 23) / 24) n b)

pub count-right : (h w n : ℕ) → n ≤ 31 → (held_after h w n ≡ 0 → ⊥) → (h + held_after h w n * w + 23) / 24 ≡ n → misfit_after h w n ≡ false
unfolding misfit_after
count-right h w n l a b = rw (le-ltb 31 n l, ne_eqb (held_after h w n) 0 a, eq-eqb ((h + held_after h w n * w + 23) / 24) n b)

positive : (m : ℕ) → (m ≡ 0 → ⊥) → 0 < m
positive zero h = absurd (h refl)
positive (suc m) h = omega arith

-- what it means that N fits
pub record FittingAfter (h w n : ℕ) : Type 0 where
  pub some : 0 < held_after h w n
  pub up : (h + held_after h w n * w + 23) / 24 ≡ n

pub fitting-after : (h w n : ℕ) → misfit_after h w n ≡ false → FittingAfter h w n
unfolding misfit_after
fitting-after h w n e =
    let s = both_false (ltb 31 n || eqb (held_after h w n) 0) (not (eqb ((h + held_after h w n * w + 23) / 24) n)) e in
    record {
      some = positive (held_after h w n) (eqb-false (held_after h w n) 0 (both_false (ltb 31 n) (eqb (held_after h w n) 0) s.0).1);
      up = eqb-true _ n
          (not-false (eqb ((h + held_after h w n * w + 23) / 24) n) s.1);
    }

-- ---- the last checks

-- 12
module _ {A : Type 0} (refuse : ℕ → A) (answer : A) (most c : ℕ) where
  abbrev count_checked : A
  count_checked = in_order ((wrong_count most c, 12) ∷ []) refuse answer

  pub count-zero : c ≡ 0 → refuse 12 ≡ count_checked
  count-zero e = rw (eq-eqb c 0 e)

  pub count-many : (c ≡ 0 → ⊥) → most < c → refuse 12 ≡ count_checked
  count-many e h = rw (ne_eqb c 0 e, lt-ltb most c h)

  pub count-fine : (c ≡ 0 → ⊥) → c ≤ most → answer ≡ count_checked
  count-fine e h = rw (ne_eqb c 0 e, le-ltb most c h)

-- 1 to the most
pub some-few : (c most : ℕ) → 1 ≤ c → c ≤ most → wrong_count most c ≡ false
some-few c most l h = rw (ne_eqb c 0 (λ z. omega arith), le-ltb most c h)

pub told-some-few : (c most : ℕ) → wrong_count most c ≡ false → (1 ≤ c) × (c ≤ most)
told-some-few c most e = let s = both_false (eqb c 0) (ltb most c) e in (positive c (eqb-false c 0 s.0), ltb-false most c s.1)
