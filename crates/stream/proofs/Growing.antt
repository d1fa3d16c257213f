-- Hunting once is hunting piece by piece: where a hunt has found no frame, the hunt over more bits goes on from where it stopped, with the faults that
-- it met. Assumes nothing.
use mathlib.Core.Path.{◌≡◌, refl, sym, ap, ap₂, ◌∙◌}
use mathlib.Core.Bool.{Bool, true, false}
use mathlib.Core.List.{List, [], ◌∷◌, ◌++◌}
use Prim.Native.Nat.{ℕ, zero, suc, ◌+◌, ◌-◌, ◌*◌, ◌≤◌, ◌<◌}
use native.Mathlib.Nat.{suc-add, add-suc}
use native.Mathlib.Omega.{arith}
use lib.Dec.{leb}
use lib.ListN.{length, length-append}
use borrow.Author.Tests.{leb-true, le-leb, lt-leb}
use Rattle.stream.specs.Standing.{word_at, right, size}
use Rattle.stream.specs.Verdict.{Verdict, out, standing, undecided, judged, verdict_from, Fault, fault_of, Hunted, with_fault, hunt_by, hunt}
use Rattle.stream.proofs.Words.{unlike, n-append, word-append}
use Rattle.stream.proofs.Stand.{stands-long}
use Rattle.stream.proofs.Verdicts.{none_so_far}
use Rattle.stream.proofs.HuntSteps.{hunt-short}
use Rattle.stream.proofs.Hunting.{hunts}

-- what a verdict says of the one over more bits: ruled out stays so, by the same word; where it waits, the later one begins at that word
abbrev Grows : List Bool → List Bool → Verdict → Verdict → Type 0
Grows d e (out j) x = (x ≡ out j) × (32 + 30 * j ≤ length d)
Grows d e standing x = Unit {0}
Grows d e (undecided j) x = x ≡ verdict_from (33 - j) j (d ++ e)

-- whether word k is the last, once it has come
last-append : (k : ℕ) (d e : List Bool) → 32 + 30 * k ≤ length d → leb (size (d ++ e)) (suc k) ≡ leb (size d) (suc k)
last-append zero d e h = lt-leb (size (d ++ e)) 1 (omega arith) ∙ sym (lt-leb (size d) 1 (omega arith))
last-append (suc k) d e h = ap (λ n. leb (2 + n) (suc (suc k))) (n-append d e (omega arith))

-- word k has come: the verdict over more bits looks at the same word
verdict-come : (n k : ℕ) (d e : List Bool) → 32 + 30 * k ≤ length d → (b c : Bool) → right k (word_at k d) ≡ b → leb (size d) (suc k) ≡ c
    → verdict_from (suc n) k (d ++ e) ≡ judged true b c k (verdict_from n (suc k) (d ++ e))
unfolding verdict_from
verdict-come n k d e l b c eb ec =
    rw (le-leb (32 + 30 * k) (length (d ++ e)) (omega (arith, l, length-append d e)), word-append k d e l, eb, last-append k d e l, ec)

verdict-grows : (n k : ℕ) (d e : List Bool) → n + k ≡ 33 → Grows d e (verdict_from n k d) (verdict_from n k (d ++ e))
unfolding verdict_from
verdict-grows zero k d e h = ap (λ n. verdict_from n k (d ++ e)) none
  where
    none : 0 ≡ 33 - k
    none = omega arith
verdict-grows (suc n) k d e h =
    go (leb (32 + 30 * k) (length d)) refl (right k (word_at k d)) refl (leb (size d) (suc k)) refl
    (verdict-grows n (suc k) d e (omega (arith, h, suc-add n k, add-suc n k)))
  where
    left : suc n ≡ 33 - k
    left = omega arith

    go : (a : Bool) → leb (32 + 30 * k) (length d) ≡ a → (b : Bool) → right k (word_at k d) ≡ b → (c : Bool) → leb (size d) (suc k) ≡ c
        → Grows d e (verdict_from n (suc k) d) (verdict_from n (suc k) (d ++ e))
        → Grows d e (judged a b c k (verdict_from n (suc k) d)) (verdict_from (suc n) k (d ++ e))
    go false ea b eb c ec next = ap (λ m. verdict_from m k (d ++ e)) left
    go true ea false eb c ec next =
        (verdict-come n k d e (leb-true (32 + 30 * k) (length d) ea) false c eb ec, leb-true (32 + 30 * k) (length d) ea)
    go true ea true eb true ec next = tt
    go true ea true eb false ec next = rw (verdict-come n k d e (leb-true (32 + 30 * k) (length d) ea) true false eb ec) next

-- faults met before a hunt
abbrev pub with_faults : List Fault → Hunted → Hunted
with_faults fs h = record { rest = h.rest; words = h.words; found = h.found; faults = fs ++ h.faults }

-- HUNTING ON
pub hunt-grows : (k : ℕ) (d e : List Bool) → k ≤ 33 → (hunt false k d).found ≡ false
    → hunt false k (d ++ e) ≡ with_faults (hunt false k d).faults (hunt false (hunt false k d).words ((hunt false k d).rest ++ e))
unfolding hunt
hunt-grows k [] e h f = refl
hunt-grows k (b ∷ d) e h f =
    go (verdict_from (33 - k) k (b ∷ d)) (verdict_from (33 - k) k (b ∷ (d ++ e))) (verdict-grows (33 - k) k (b ∷ d) e (omega arith)) f
    (hunt-grows 0 d e (omega arith))
  where
    go : (v x : Verdict) → Grows (b ∷ d) e v x → (hunt_by v false (b ∷ d) (hunt false 0 d)).found ≡ false
        → ((hunt false 0 d).found ≡ false
        → hunt false 0 (d ++ e) ≡ with_faults (hunt false 0 d).faults (hunt false (hunt false 0 d).words ((hunt false 0 d).rest ++ e)))
        → hunt_by x false (b ∷ (d ++ e)) (hunt false 0 (d ++ e))
        ≡ with_faults (hunt_by v false (b ∷ d) (hunt false 0 d)).faults
        (hunt false (hunt_by v false (b ∷ d) (hunt false 0 d)).words ((hunt_by v false (b ∷ d) (hunt false 0 d)).rest ++ e))
    go (out j) x g f next = rw g.0 (ap₂ with_fault (ap (fault_of j) (word-append j (b ∷ d) e g.1)) (next f))
    go standing x g f next = unlike true refl f
    go (undecided j) x g f next = ap (λ v. hunt_by v false (b ∷ (d ++ e)) (hunt false 0 (d ++ e))) g

-- NO FRAME is found before two words have come
pub none_found : (d : List Bool) → length d < 62 → (hunt false 0 d).found ≡ false
none_found d l = go (hunt false 0 d).found refl
  where
    go : (x : Bool) → (hunt false 0 d).found ≡ x → x ≡ false
    go false e = refl
    go true e = absurd (omega (arith, l, stands-long (hunt false 0 d).rest ((hunts false 0 d (none_so_far d)).found e), hunt-short false 0 d))
