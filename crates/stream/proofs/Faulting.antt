-- The faults of a stream, one position at a time. Assumes nothing.
use mathlib.Core.Path.{◌≡◌, refl}
use mathlib.Core.Bool.{Bool, true, false}
use mathlib.Core.List.{List, [], ◌∷◌}
use Prim.Native.Nat.{ℕ, zero, suc, ◌-◌, ◌*◌}
use native.Mathlib.Omega.{arith}
use lib.ListN.{drop}
use Rattle.stream.specs.Standing.{word_at, size, Stands}
use Rattle.stream.specs.Verdict.{WrongAt, undecided, verdict, fault_of}
use Rattle.stream.specs.Faults.{faults}
use Rattle.stream.proofs.Stand.{stands-long}
use Rattle.stream.proofs.Verdicts.{verdict-standing, verdict-wrong}

one_less : (n : ℕ) → suc n - 1 ≡ n
one_less n = omega arith

pub faults-skip : (x : Bool) (n m : ℕ) (d : List Bool) → faults x n m d ≡ faults x n 0 (drop m d)
unfolding faults
faults-skip x n zero d = refl
faults-skip x n (suc m) [] = refl
faults-skip x n (suc m) (b ∷ d) = faults-skip x n m d

-- nothing is left
pub faults-none : (x : Bool) (n : ℕ) → faults x n 0 [] ≡ []
unfolding faults
faults-none x n = refl

-- a word rules the position out
pub faults-out : (x : Bool) (n k : ℕ) (b : Bool) (d : List Bool) → WrongAt k (b ∷ d) → faults x n 0 (b ∷ d) ≡ fault_of k (word_at k (b ∷ d)) ∷ faults x n 0 d
unfolding faults
faults-out x n k b d w = rw ((verdict-wrong k (b ∷ d)).1 w)

-- a frame stands: it is passed, unless it is the one after the n-th
pub faults-hit : (x : Bool) (n : ℕ) (d : List Bool) → Stands d → faults x (suc n) 0 d ≡ faults x n 0 (drop (30 * size d) d)
unfolding faults
faults-hit x n [] s = absurd (omega (arith, stands-long [] s))
faults-hit x n (b ∷ d) s =
    rw ((verdict-standing (b ∷ d)).1 s, one_less n, faults-skip x n (30 * size (b ∷ d) - 1) d)
    (at (30 * size (b ∷ d)) (30 * size (b ∷ d) - 1) (omega arith))
  where
    at : (m l : ℕ) → m ≡ suc l → faults x n 0 (drop l d) ≡ faults x n 0 (drop m (b ∷ d))
    at m l e = rw e

pub faults-wait : (x : Bool) (d : List Bool) → Stands d → faults x 0 0 d ≡ []
unfolding faults
faults-wait x [] s = refl
faults-wait x (b ∷ d) s = rw ((verdict-standing (b ∷ d)).1 s)

-- the next word has not come, or will not come
pub faults-undecided : (n k : ℕ) (d : List Bool) → verdict d ≡ undecided k → faults false n 0 d ≡ []
unfolding faults
faults-undecided n k [] e = refl
faults-undecided n k (b ∷ d) e = rw e

pub faults-cut : (n k : ℕ) (b : Bool) (d : List Bool) → verdict (b ∷ d) ≡ undecided k → faults true n 0 (b ∷ d) ≡ faults true n 0 d
unfolding faults
faults-cut n k b d e = rw e
