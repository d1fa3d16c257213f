-- The verdict by words in order is right: it says that a frame stands exactly when one does, and that a position is ruled out exactly when a
-- word that has come fails; and no position waits once 990 bits from it have come. Assumes nothing.
use mathlib.Core.Path.{◌≡◌, refl, ap, subst, ◌∙◌}
use mathlib.Core.Logic.{◌↔◌}
use mathlib.Core.Bool.{Bool, true, false}
use mathlib.Core.List.{List, ◌++◌}
use Prim.Native.Nat.{ℕ, zero, suc, ◌+◌, ◌*◌, ◌≤◌, ◌<◌}
use native.Mathlib.Nat.{zero-add, add-suc, suc-add, not-suc-le-zero}
use native.Mathlib.Decide.{dec_lt}
use native.Mathlib.Omega.{arith}
use lib.Dec.{leb}
use lib.ListN.{length, length-append}
use borrow.Author.Count.{below_more}
use borrow.Author.Tests.{leb-true, leb-false}
use Rattle.stream.specs.Standing.{word_at, right, size, Stands}
use Rattle.stream.specs.Verdict.{RuledOut, RightSoFar, WrongAt, Verdict, out, standing, undecided, judged, verdict_from, verdict}
use Rattle.stream.proofs.Words.{unlike, n-lt, word-append, n-append}

-- ---- the words so far

pub none_so_far : (d : List Bool) → RightSoFar 0 d
none_so_far d = record { come = λ j h. absurd (not-suc-le-zero h); good = λ j h. absurd (not-suc-le-zero h); inside = omega arith }

below_suc : (P : ℕ → Type 0) (k : ℕ) → ((j : ℕ) → j < k → P j) → P k → (j : ℕ) → j < suc k → P j
below_suc P k f h j l = below_more P k f h j (omega arith)

one_more : (k : ℕ) (d : List Bool) → RightSoFar k d → 32 + 30 * k ≤ length d → right k (word_at k d) ≡ true → suc k < size d → RightSoFar (suc k) d
one_more k d p a b c = record {
  come = below_suc (λ (j : ℕ). 32 + 30 * j ≤ length d) k p.come a;
  good = below_suc (λ (j : ℕ). right j (word_at j d) ≡ true) k p.good b;
  inside = c;
}

-- a frame that has word k has it in every longer stream, if the words before have come
inside-append : (k : ℕ) (d e : List Bool) → ((j : ℕ) → j < k → 32 + 30 * j ≤ length d) → k < size d → k < size (d ++ e)
inside-append zero d e c h = omega arith
inside-append (suc zero) d e c h = omega arith
inside-append (suc (suc k)) d e c h = omega (arith, n-append d e (c 1 (omega arith)))

pub so-far-append : (k : ℕ) (d e : List Bool) → RightSoFar k d → RightSoFar k (d ++ e)
so-far-append k d e p = record {
  come = λ j h. omega (arith, p.come j h, length-append d e);
  good = λ j h. ap (right j) (word-append j d e (p.come j h)) ∙ p.good j h;
  inside = inside-append k d e p.come p.inside;
}

-- ---- ruled out

-- by word k, and by the same word whatever comes later
pub wrong-out : (k : ℕ) (d : List Bool) → WrongAt k d → RuledOut d
wrong-out k d w = record { k = k; come = w.come; inside = w.before.inside; fails = w.fails }

pub wrong-append : (k : ℕ) (d e : List Bool) → WrongAt k d → WrongAt k (d ++ e)
wrong-append k d e w = record {
  before = so-far-append k d e w.before;
  come = omega (arith, w.come, length-append d e);
  fails = ap (right k) (word-append k d e w.come) ∙ w.fails;
}

-- one word only is the first
pub wrong-once : (j k : ℕ) (d : List Bool) → WrongAt j d → WrongAt k d → j ≡ k
wrong-once j k d v w = go (dec_lt j k) (dec_lt k j)
  where
    go : Dec (j < k) → Dec (k < j) → j ≡ k
    go (yes x) y = unlike (right j (word_at j d)) (w.before.good j x) v.fails
    go (no x) (yes y) = unlike (right k (word_at k d)) (v.before.good k y) w.fails
    go (no x) (no y) = omega (arith, x, y)

-- for good ..
pub out-append : (d e : List Bool) → RuledOut d → RuledOut (d ++ e)
out-append d e r = record {
  k = r.k;
  come = omega (arith, r.come, length-append d e);
  inside = inside-append r.k d e (λ j h. omega (arith, r.come)) r.inside;
  fails = ap (right r.k) (word-append r.k d e r.come) ∙ r.fails;
}

-- .. so nothing stands there, whatever comes later
pub out-falls : (d : List Bool) → RuledOut d → Stands d → ⊥
out-falls d r s = unlike (right r.k (word_at r.k d)) (s.each r.k r.inside) r.fails

pub out_stays : (d e : List Bool) → RuledOut d → Stands (d ++ e) → ⊥
out_stays d e r = out-falls (d ++ e) (out-append d e r)

-- a position whose next word has not come does not stand
pub undecided-falls : (k : ℕ) (d : List Bool) → RightSoFar k d → length d < 32 + 30 * k → Stands d → ⊥
undecided-falls k d p l s = omega (arith, p.inside, s.taken)

-- nor is it ruled out: a word that fails has come, so it would be one of the k that are right
undecided-not-out : (k : ℕ) (d : List Bool) → RightSoFar k d → length d < 32 + 30 * k → RuledOut d → ⊥
undecided-not-out k d p l r = unlike (right r.k (word_at r.k d)) (p.good r.k (omega (arith, r.come))) r.fails

-- ---- the verdict

pub data Judged (d : List Bool) : Verdict → Type 0 where
  is-out : (k : ℕ) → WrongAt k d → Judged d (out k)
  is-standing : Stands d → Judged d standing
  is-undecided : (k : ℕ) → RightSoFar k d → length d < 32 + 30 * k → k ≤ 32 → Judged d (undecided k)

pub judge : (n k : ℕ) (d : List Bool) → n + k ≡ 33 → RightSoFar k d → Judged d (verdict_from n k d)
unfolding verdict_from
judge zero k d e p = absurd (omega (arith, p.inside, n-lt d, zero-add k))
judge (suc n) k d e p =
    go (leb (32 + 30 * k) (length d)) refl (right k (word_at k d)) refl (leb (size d) (suc k)) refl
    (judge n (suc k) d (omega (arith, e, suc-add n k, add-suc n k)))
  where
    go : (a : Bool) → leb (32 + 30 * k) (length d) ≡ a → (b : Bool) → right k (word_at k d) ≡ b → (c : Bool) → leb (size d) (suc k) ≡ c
        → (RightSoFar (suc k) d → Judged d (verdict_from n (suc k) d)) → Judged d (judged a b c k (verdict_from n (suc k) d))
    go false ea b eb c ec next = is-undecided k p (leb-false (32 + 30 * k) (length d) ea) (omega (arith, p.inside, n-lt d))
    go true ea false eb c ec next = is-out k record { before = p; come = leb-true (32 + 30 * k) (length d) ea; fails = eb }
    go true ea true eb true ec next = is-standing record {
      taken = omega (arith, leb-true (32 + 30 * k) (length d) ea, leb-true (size d) (suc k) ec);
      each = λ j h. below_suc (λ (i : ℕ). right i (word_at i d) ≡ true) k p.good eb j (omega (arith, leb-true (size d) (suc k) ec));
    }
    go true ea true eb false ec next = next (one_more k d p (leb-true (32 + 30 * k) (length d) ea) eb (leb-false (size d) (suc k) ec))

pub judge-all : (d : List Bool) → Judged d (verdict d)
judge-all d = judge 33 0 d refl (none_so_far d)

-- a word that rules a position out has come, from whatever word on the verdict looks
abbrev pub Came : List Bool → Verdict → Type 0
Came d (out k) = 32 + 30 * k ≤ length d
Came d standing = Unit {0}
Came d (undecided k) = Unit {0}

pub out-came : (n k : ℕ) (d : List Bool) → Came d (verdict_from n k d)
unfolding verdict_from
out-came zero k d = tt
out-came (suc n) k d = go (leb (32 + 30 * k) (length d)) refl (right k (word_at k d)) (leb (size d) (suc k)) (out-came n (suc k) d)
  where
    go : (a : Bool) → leb (32 + 30 * k) (length d) ≡ a → (b c : Bool) → Came d (verdict_from n (suc k) d) → Came d (judged a b c k (verdict_from n (suc k) d))
    go false e b c next = tt
    go true e false c next = leb-true (32 + 30 * k) (length d) e
    go true e true true next = tt
    go true e true false next = next

-- A FRAME STANDS exactly when the verdict says so
pub verdict-standing : (d : List Bool) → (verdict d ≡ standing) ↔ Stands d
verdict-standing d = (λ e. there (verdict d) (judge-all d) e, λ s. back (verdict d) (judge-all d) s)
  where
    there : (v : Verdict) → Judged d v → v ≡ standing → Stands d
    there v (is-out k w) e = absurd (let z : ◌≡◌ {A = ℕ} 0 1 = cc in omega arith)
    there v (is-standing s) e = s
    there v (is-undecided k p l h) e = absurd (let z : ◌≡◌ {A = ℕ} 0 1 = cc in omega arith)

    back : (v : Verdict) → Judged d v → Stands d → v ≡ standing
    back v (is-out k w) s = absurd (out-falls d (wrong-out k d w) s)
    back v (is-standing t) s = refl
    back v (is-undecided k p l h) s = absurd (undecided-falls k d p l s)

-- RULED OUT BY WORD k exactly when the verdict says so
pub verdict-wrong : (k : ℕ) (d : List Bool) → (verdict d ≡ out k) ↔ WrongAt k d
verdict-wrong k d = (λ e. there (verdict d) (judge-all d) e, λ w. back (verdict d) (judge-all d) w)
  where
    there : (v : Verdict) → Judged d v → v ≡ out k → WrongAt k d
    there v (is-out j w) e = let z : j ≡ k = cc in subst (λ i. WrongAt i d) z w
    there v (is-standing s) e = absurd (let z : ◌≡◌ {A = ℕ} 0 1 = cc in omega arith)
    there v (is-undecided j p l h) e = absurd (let z : ◌≡◌ {A = ℕ} 0 1 = cc in omega arith)

    back : (v : Verdict) → Judged d v → WrongAt k d → v ≡ out k
    back v (is-out j u) w = ap out (wrong-once j k d u w)
    back v (is-standing s) w = absurd (out-falls d (wrong-out k d w) s)
    back v (is-undecided j p l h) w = absurd (undecided-not-out j d p l (wrong-out k d w))

-- and by some word exactly when it is ruled out
pub verdict-out : (d : List Bool) → ((k : ℕ) × (verdict d ≡ out k)) ↔ RuledOut d
verdict-out d = (λ e. wrong-out e.0 d ((verdict-wrong e.0 d).0 e.1), λ r. back (verdict d) (judge-all d) r)
  where
    back : (v : Verdict) → Judged d v → RuledOut d → (k : ℕ) × (v ≡ out k)
    back v (is-out k w) r = (k, refl)
    back v (is-standing s) r = absurd (out-falls d r s)
    back v (is-undecided k p l h) r = absurd (undecided-not-out k d p l r)

-- WAITING: the words that have come are right, and the next has not
pub verdict-undecided : (k : ℕ) (d : List Bool) → RightSoFar k d → length d < 32 + 30 * k → (j : ℕ) × (verdict d ≡ undecided j)
verdict-undecided k d p l = go (verdict d) (judge-all d)
  where
    go : (v : Verdict) → Judged d v → (j : ℕ) × (v ≡ undecided j)
    go v (is-out j w) = absurd (undecided-not-out k d p l (wrong-out j d w))
    go v (is-standing s) = absurd (undecided-falls k d p l s)
    go v (is-undecided j q m h) = (j, refl)

-- DECIDED once 990 bits from the position, so 992 from two bits before it, have come
pub decided-by-990 : (d : List Bool) → 992 ≤ length d → (k : ℕ) → verdict d ≡ undecided k → ⊥
decided-by-990 d l k e = go (verdict d) (judge-all d) e
  where
    go : (v : Verdict) → Judged d v → v ≡ undecided k → ⊥
    go v (is-out j w) f = let z : ◌≡◌ {A = ℕ} 0 1 = cc in omega arith
    go v (is-standing s) f = let z : ◌≡◌ {A = ℕ} 0 1 = cc in omega arith
    go v (is-undecided j p h b) f = omega arith
