-- Runs of stores into a list. Assumes nothing.
use mathlib.Core.Path.{◌≡◌, ap, ◌∙◌}
use mathlib.Core.List.{List, [], ◌∷◌, ◌++◌}
use Prim.Native.Nat.{ℕ, suc, ◌+◌}
use native.Mathlib.Omega.{arith}
use lib.ListN.{length, set}
use lib.Seq.{sets}

-- a run of stores in two parts
pub sets-append : (a b l : List ℕ) (i : ℕ) → sets l i (a ++ b) ≡ sets (sets l i a) (i + length a) b
sets-append [] b l i = ap (λ j. sets l j b) at_first
  where
    at_first : i ≡ i + 0
    at_first = omega arith
sets-append (x ∷ a) b l i = sets-append a b (set l i x) (suc i) ∙ ap (λ j. sets (sets (set l i x) (suc i) a) j b) one_on
  where
    one_on : suc i + length a ≡ i + suc (length a)
    one_on = omega arith
