-- Where a hunt is in its stream: what it has found and met, and what is left to it. Assumes nothing.
use mathlib.Core.Path.{◌≡◌, sym, ap, ◌∙◌}
use mathlib.Core.Bool.{Bool, true, false}
use mathlib.Core.List.{List, ◌++◌, append_assoc}
use Prim.Native.Nat.{ℕ, ◌+◌}
use native.Mathlib.Omega.{arith}
use lib.ListN.{length, drop, length-append}
use lib.Seq.{drop-append-le}
use Rattle.stream.specs.Standing.{Placed, scan, frames_in}
use Rattle.stream.specs.Verdict.{decided, Fault}
use Rattle.stream.specs.Faults.{faults}
use Rattle.stream.proofs.Hunting.{MayCome}

-- where the hunt is after `hits` and with the faults `met` in the stream s, with d left: at position 2 + gone
pub record Stage (s : List Bool) (hits : List Placed) (met : List Fault) (ended : Bool) (gone : ℕ) (d : List Bool) : Type 0 where
  pub split : d ≡ drop gone s
  pub long : gone + length d ≡ length s
  pub scanned : (e : List Bool) → MayCome ended e → frames_in (s ++ e) ≡ hits ++ scan 0 (2 + gone) (d ++ e)
  pub decides : ended ≡ false → (e : List Bool) → decided 0 2 (s ++ e) ≡ hits ++ decided 0 (2 + gone) (d ++ e)
  pub faulted : (x : Bool) → (ended ≡ true → x ≡ true) → (n : ℕ) (e : List Bool) → MayCome ended e
      → faults x (length hits + n) 0 (s ++ e) ≡ met ++ faults x n 0 (d ++ e)

-- bits more
pub stage-more : (s : List Bool) (hits : List Placed) (met : List Fault) (gone : ℕ) (d x : List Bool) → Stage s hits met false gone d
    → Stage (s ++ x) hits met false gone (d ++ x)
stage-more s hits met gone d x g = record {
  split = ap (λ l. l ++ x) g.split ∙ sym (drop-append-le gone s x (omega (arith, g.long)));
  long = omega (arith, g.long, length-append d x, length-append s x);
  scanned = λ y m. rw (append_assoc s x y, append_assoc d x y) (g.scanned (x ++ y) tt);
  decides = λ f y. rw (append_assoc s x y, append_assoc d x y) (g.decides f (x ++ y));
  faulted = λ v q m y z. rw (append_assoc s x y, append_assoc d x y) (g.faulted v q m (x ++ y) tt);
}
