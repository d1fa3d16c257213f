-- A frame that stands: it stands in every longer stream and is the same frame there, and the test says exactly that it stands. Assumes nothing.
use mathlib.Core.Path.{◌≡◌, refl, ap, ◌∙◌}
use mathlib.Core.Bool.{Bool, true, false}
use mathlib.Core.List.{List, ◌++◌}
use Prim.Native.Nat.{ℕ, zero, suc, ◌+◌, ◌*◌, ◌≤◌, ◌<◌}
use native.Mathlib.Nat.{add-suc, add-zero, zero-add, suc-add, not-suc-le-zero, le_of_suc-le-suc}
use native.Mathlib.Omega.{arith}
use lib.Dec.{leb}
use lib.ListN.{length, length-append}
use borrow.Author.Tests.{le-leb, leb-true}
use Rattle.stream.specs.Standing.{word_at, right, n_at, size, Stands, all_right, stands, placed}
use Rattle.stream.proofs.Words.{both_left, both_right, word-append, n-append, frame-append}

-- a frame that stands has two words
pub stands-long : (d : List Bool) → Stands d → 62 ≤ length d
stands-long d s = omega (arith, s.taken)

-- IN EVERY LONGER STREAM
pub stands-append : (d e : List Bool) → Stands d → Stands (d ++ e)
stands-append d e s = record {
  taken = omega (arith, same, s.taken, length-append d e);
  each = λ k h. ap (right k) (word-append k d e (omega (arith, same, s.taken))) ∙ s.each k (omega (arith, same));
}
  where
    same : n_at (d ++ e) ≡ n_at d
    same = n-append d e (stands-long d s)

pub placed-append : (p : ℕ) (d e : List Bool) → Stands d → placed p (d ++ e) ≡ placed p d
unfolding placed
placed-append p d e s = rw (frame-append d e s.taken)

-- THE TEST
all-each : (n k : ℕ) (d : List Bool) → all_right n k d ≡ true → (j : ℕ) → j < n → right (k + j) (word_at (k + j) d) ≡ true
unfolding all_right
all-each zero k d e j h = absurd (not-suc-le-zero h)
all-each (suc n) k d e zero h = rw (add-zero k) (both_left (right k (word_at k d)) (all_right n (suc k) d) e)
all-each (suc n) k d e (suc j) h =
    rw (add-suc k j, ← (suc-add k j)) (all-each n (suc k) d (both_right (right k (word_at k d)) (all_right n (suc k) d) e) j (le_of_suc-le-suc h))

each_all : (n k : ℕ) (d : List Bool) → ((j : ℕ) → j < n → right (k + j) (word_at (k + j) d) ≡ true) → all_right n k d ≡ true
unfolding all_right
each_all zero k d f = refl
each_all (suc n) k d f =
    rw ((rw (add-zero k) at (f zero (omega arith))), each_all n (suc k) d (λ j h. rw (add-suc k j, ← (suc-add k j)) at (f (suc j) (omega arith))))

pub test-stands : (d : List Bool) → stands d ≡ true → Stands d
unfolding stands
test-stands d e = record {
  taken = leb-true _ _ (both_left (leb (2 + 30 * size d) (length d)) (all_right (size d) 0 d) e);
  each = λ k h. rw (zero-add k) at (all-each (size d) 0 d (both_right (leb (2 + 30 * size d) (length d)) (all_right (size d) 0 d) e) k h);
}

pub stands-test : (d : List Bool) → Stands d → stands d ≡ true
unfolding stands
stands-test d s =
    rw (le-leb (2 + 30 * size d) (length d) s.taken, each_all (size d) 0 d (λ j h. rw (zero-add j) (s.each j h)))

pub not_test : (d : List Bool) → (Stands d → ⊥) → stands d ≡ false
not_test d f = go (stands d) refl
  where
    go : (t : Bool) → stands d ≡ t → t ≡ false
    go true e = absurd (f (test-stands d e))
    go false e = refl
