-- A frame that stands is among those decided once 990 bits from its first have come, or a frame decided before covers its first bit.
-- Assumes nothing.
use mathlib.Core.Path.{refl, ap}
use mathlib.Core.Bool.{Bool}
use mathlib.Core.Logic.{inl, inr}
use mathlib.Core.List.Memᴰ
use mathlib.Core.List.{List, [], ◌∷◌}
use Prim.Native.Nat.{ℕ, zero, suc, ◌+◌, ◌-◌, ◌*◌, ◌≤◌}
use native.Mathlib.Nat.{add-suc, add-zero, suc-add, not-suc-le-zero, le_of_suc-le-suc}
use native.Mathlib.Decide.{dec_le}
use native.Mathlib.Omega.{arith}
use lib.ListN.{length, drop}
use lib.Seq.{drop-nil}
use Rattle.stream.specs.Standing.{size, Stands, Placed, placed}
use Rattle.stream.specs.Verdict.{Verdict, verdict, decided_by, decided}
use Rattle.stream.specs.Places.{FoundOrCovered}
use Rattle.stream.proofs.Words.{frame-n}
use Rattle.stream.proofs.Stand.{stands-long}
use Rattle.stream.proofs.Verdicts.{Judged, is-out, is-standing, is-undecided, judge-all, verdict-standing}
use Rattle.stream.proofs.Scanning.{later}

pub in-time : (n p q : ℕ) (d : List Bool) → n ≤ q → Stands (drop q d) → q + 992 ≤ length d → FoundOrCovered (placed (p + q) (drop q d)) (decided n p d)
unfolding decided placed
in-time n p q [] l s t = absurd (omega (arith, stands-long (drop q []) s, ap length (drop-nil {A = Bool} q)))
in-time (suc n) p zero (b ∷ d) l s t = absurd (not-suc-le-zero l)
in-time (suc n) p (suc q) (b ∷ d) l s t = rw (add-suc p q, ← (suc-add p q)) (in-time n (suc p) q d (le_of_suc-le-suc l) s (omega (arith, suc-add q 992)))
in-time zero p zero (b ∷ d) l s t = rw ((verdict-standing (b ∷ d)).1 s, add-zero p) (inl (Memᴰ.head refl))
in-time zero p (suc q) (b ∷ d) l s t =
    rw (add-suc p q, ← (suc-add p q))
    (go (verdict (b ∷ d)) (judge-all (b ∷ d)) (dec_le past q) (λ h. in-time past (suc p) q d h s (omega (arith, suc-add q 992)))
    (in-time 0 (suc p) q d (omega arith) s (omega (arith, suc-add q 992))))
  where
    -- bits after the first that the frame here has
    past : ℕ
    past = 30 * size (b ∷ d) - 1

    sought : Placed
    sought = placed (suc p + q) (drop q d)

    go : (v : Verdict) → Judged (b ∷ d) v → Dec (past ≤ q) → (past ≤ q → FoundOrCovered sought (decided past (suc p) d))
        → FoundOrCovered sought (decided 0 (suc p) d)
        → FoundOrCovered sought (decided_by v (placed p (b ∷ d) ∷ decided past (suc p) d) (decided 0 (suc p) d))
    go v (is-out k w) x f g = g
    go v (is-standing u) (yes x) f g = later sought (placed p (b ∷ d)) (decided past (suc p) d) (f x)
    go v (is-standing u) (no x) f g =
        inr (record {
          by = placed p (b ∷ d);
          there = Memᴰ.head refl;
          before = omega (arith, suc-add p q);
          beyond = omega (arith, x, suc-add p q, frame-n (b ∷ d));
        })
    go v (is-undecided k u h m) x f g = absurd (omega (arith, t, suc-add q 992))
