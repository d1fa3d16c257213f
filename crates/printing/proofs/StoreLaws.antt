-- Runs of stores: over a part, and in two parts. Assumes nothing.
use mathlib.Core.Path.{◌≡◌, sym, ap, ap₂, ◌∙◌}
use mathlib.Core.List.{List, ◌++◌}
use Prim.Native.Nat.{ℕ, ◌+◌, ◌-◌, ◌≤◌}
use native.Mathlib.Omega.{arith}
use borrow.Rule.Slice.PartMut.{put_mid}
use lib.ListN.{length, set, take, drop, length-set}
use lib.Seq.{sets, length-sets}
use Rattle.std.proofs.lemmas.List.{drop-drop, append_assoc}
use Rattle.std.proofs.lemmas.List.Edits.{sets-eq}
use Rattle.bits.proofs.Stores.{sets-append}

-- a list written over a part is stored from the part's place on
pub stored-part : (l a : List ℕ) (i j : ℕ) → j ≡ i + length a → j ≤ length l → put_mid i (j - i) l a ≡ sets l i a
stored-part l a i j e h =
    ap (λ r. take i l ++ (a ++ r)) rest ∙ sym (sets-eq a l i (omega arith) ∙ append_assoc (take i l) a (drop (i + length a) l))
  where
    past : i + (j - i) ≡ i + length a
    past = omega arith

    rest : drop (j - i) (drop i l) ≡ drop (i + length a) l
    rest = drop-drop (j - i) i l ∙ ap (λ k. drop k l) past

-- stores keep the length
pub length-stored : (l : List ℕ) (i : ℕ) (a l' : List ℕ) → l' ≡ sets l i a → length l' ≡ length l
length-stored l i a l' e = ap length e ∙ length-sets l i a

pub length_marked : (l : List ℕ) (i : ℕ) (a l' : List ℕ) → l' ≡ sets l i a → (j x : ℕ) → length (set l' j x) ≡ length l
length_marked l i a l' e j x = length-set l' j x ∙ length-stored l i a l' e

-- ---- one store after the other

pub stored-both : (l a b : List ℕ) (i : ℕ) (l₁ l₂ : List ℕ) → l₁ ≡ sets l i a → l₂ ≡ sets l₁ (i + length a) b → l₂ ≡ sets l i (a ++ b)
stored-both l a b i l₁ l₂ e₁ e₂ = e₂ ∙ ap (λ m. sets m (i + length a) b) e₁ ∙ sym (sets-append a b l i)

-- a part stored at place i, where the rest follows at place j
pub stored-then : (l a rest : List ℕ) (i j : ℕ) (l₁ : List ℕ) → j ≡ i + length a → l₁ ≡ sets l i a → sets l i (a ++ rest) ≡ sets l₁ j rest
stored-then l a rest i j l₁ ej e = sets-append a rest l i ∙ ap₂ (λ m k. sets m k rest) (sym e) (sym ej)
