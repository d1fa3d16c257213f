-- What is decided stays so: the frames decided by the bits that have come are the first ones of the scan, and of what is decided later,
-- whatever comes. Assumes nothing.
use mathlib.Core.Path.{◌≡◌, refl, ap}
use mathlib.Core.Bool.{Bool}
use mathlib.Core.List.{List, [], ◌∷◌, ◌++◌}
use Prim.Native.Nat.{ℕ, zero, suc, ◌+◌, ◌-◌, ◌*◌}
use native.Mathlib.Nat.{add-suc, add-zero, suc-add}
use native.Mathlib.Omega.{arith}
use lib.ListN.{drop}
use Rattle.stream.specs.Standing.{size, Stands, Placed, placed, scan}
use Rattle.stream.specs.Verdict.{RuledOut, Verdict, undecided, verdict, decided_by, decided}
use Rattle.stream.proofs.Words.{n-append}
use Rattle.stream.proofs.Stand.{stands-long, stands-append, stands-test, not_test, placed-append}
use Rattle.stream.proofs.Verdicts.{Judged, is-out, is-standing, is-undecided, judge-all, wrong-out, wrong-append, out_stays}
use Rattle.stream.proofs.Verdicts.{verdict-standing, verdict-wrong, verdict-out}

-- one list begins another
pub record Begins (a b : List Placed) : Type 0 where
  pub more : List Placed
  pub is : b ≡ a ++ more

after : (x : Placed) (a b : List Placed) → Begins a b → Begins (x ∷ a) (x ∷ b)
after x a b s = record { more = s.more; is = ap (λ l. x ∷ l) s.is }

-- ---- one step of what is decided

pub decided-skip : (n p : ℕ) (d : List Bool) → decided n p d ≡ decided 0 (p + n) (drop n d)
unfolding decided
decided-skip zero p d = rw (add-zero p)
decided-skip (suc n) p [] = refl
decided-skip (suc n) p (b ∷ d) = rw (add-suc p n, ← (suc-add p n)) (decided-skip n (suc p) d)

pub decided-out : (p : ℕ) (b : Bool) (d : List Bool) → RuledOut (b ∷ d) → decided 0 p (b ∷ d) ≡ decided 0 (suc p) d
unfolding decided
decided-out p b d r = rw ((verdict-out (b ∷ d)).1 r).1

pub decided-undecided : (p k : ℕ) (d : List Bool) → verdict d ≡ undecided k → decided 0 p d ≡ []
unfolding decided
decided-undecided p k [] e = refl
decided-undecided p k (b ∷ d) e = rw e

pub decided-hit : (p : ℕ) (d : List Bool) → Stands d → decided 0 p d ≡ placed p d ∷ decided 0 (p + 30 * size d) (drop (30 * size d) d)
unfolding decided
decided-hit p [] s = absurd (omega (arith, stands-long [] s))
decided-hit p (b ∷ d) s =
    rw ((verdict-standing (b ∷ d)).1 s, decided-skip (30 * size (b ∷ d) - 1) (suc p) d)
    (at (30 * size (b ∷ d)) (30 * size (b ∷ d) - 1) (omega arith))
  where
    at : (m n : ℕ) → m ≡ suc n → placed p (b ∷ d) ∷ decided 0 (suc p + n) (drop n d) ≡ placed p (b ∷ d) ∷ decided 0 (p + m) (drop m (b ∷ d))
    at m n e = rw (e, add-suc p n, suc-add p n)

-- ---- WHAT IS DECIDED begins the scan of every longer stream ..

pub decided-begins : (n p : ℕ) (d e : List Bool) → Begins (decided n p d) (scan n p (d ++ e))
unfolding decided scan
decided-begins n p [] e = record { more = scan n p e; is = refl }
decided-begins (suc n) p (b ∷ d) e = decided-begins n (suc p) d e
decided-begins zero p (b ∷ d) e =
    go (verdict (b ∷ d)) (judge-all (b ∷ d)) (decided-begins (30 * size (b ∷ d) - 1) (suc p) d e) (decided-begins 0 (suc p) d e)
  where
    found : List Placed
    found = placed p (b ∷ d) ∷ decided (30 * size (b ∷ d) - 1) (suc p) d

    go : (v : Verdict) → Judged (b ∷ d) v
        → Begins (decided (30 * size (b ∷ d) - 1) (suc p) d) (scan (30 * size (b ∷ d) - 1) (suc p) (d ++ e))
        → Begins (decided 0 (suc p) d) (scan 0 (suc p) (d ++ e))
        → Begins (decided_by v found (decided 0 (suc p) d)) (scan 0 p (b ∷ (d ++ e)))
    go v (is-out k w) f g = rw (not_test (b ∷ (d ++ e)) (out_stays (b ∷ d) e (wrong-out k (b ∷ d) w))) g
    go v (is-standing s) f g =
        rw (stands-test (b ∷ (d ++ e)) (stands-append (b ∷ d) e s), placed-append p (b ∷ d) e s, n-append (b ∷ d) e (stands-long (b ∷ d) s))
        (after (placed p (b ∷ d)) (decided (30 * size (b ∷ d) - 1) (suc p) d) (scan (30 * size (b ∷ d) - 1) (suc p) (d ++ e)) f)
    go v (is-undecided k q l h) f g = record { more = scan 0 p (b ∷ (d ++ e)); is = refl }

-- .. and what is decided later
pub decided-grows : (n p : ℕ) (d e : List Bool) → Begins (decided n p d) (decided n p (d ++ e))
unfolding decided
decided-grows n p [] e = record { more = decided n p e; is = refl }
decided-grows (suc n) p (b ∷ d) e = decided-grows n (suc p) d e
decided-grows zero p (b ∷ d) e =
    go (verdict (b ∷ d)) (judge-all (b ∷ d)) (decided-grows (30 * size (b ∷ d) - 1) (suc p) d e) (decided-grows 0 (suc p) d e)
  where
    found : List Placed
    found = placed p (b ∷ d) ∷ decided (30 * size (b ∷ d) - 1) (suc p) d

    go : (v : Verdict) → Judged (b ∷ d) v
        → Begins (decided (30 * size (b ∷ d) - 1) (suc p) d) (decided (30 * size (b ∷ d) - 1) (suc p) (d ++ e))
        → Begins (decided 0 (suc p) d) (decided 0 (suc p) (d ++ e))
        → Begins (decided_by v found (decided 0 (suc p) d)) (decided 0 p (b ∷ (d ++ e)))
    go v (is-out k w) f g = rw ((verdict-wrong k (b ∷ (d ++ e))).1 (wrong-append k (b ∷ d) e w)) g
    go v (is-standing s) f g =
        rw ((verdict-standing (b ∷ (d ++ e))).1 (stands-append (b ∷ d) e s), placed-append p (b ∷ d) e s, n-append (b ∷ d) e (stands-long (b ∷ d) s))
        (after (placed p (b ∷ d)) (decided (30 * size (b ∷ d) - 1) (suc p) d) (decided (30 * size (b ∷ d) - 1) (suc p) (d ++ e)) f)
    go v (is-undecided k q l h) f g = record { more = decided 0 p (b ∷ (d ++ e)); is = refl }
