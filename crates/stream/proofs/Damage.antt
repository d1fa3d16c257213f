-- A word with one, two or three turned bits, the words before it whole, rules its position out: nothing begins where that frame began, in any
-- stream and wherever the stream is cut. Assumes nothing.
use mathlib.Core.Path.{◌≡◌, refl, sym, ap, ap₂, subst, ◌∙◌}
use mathlib.Core.Bool.{Bool, true, false}
use mathlib.Core.List.{List, [], ◌∷◌, ◌++◌, Memᴰ}
use Prim.Native.Nat.{ℕ, zero, suc, ◌+◌, ◌*◌, ◌≤◌, ◌<◌}
use native.Mathlib.Nat.{zero-add, add-suc, suc-add, not-suc-le-zero}
use native.Mathlib.Omega.{arith}
use lib.Dec.{eqb}
use lib.ListN.{length, take, drop, length-drop, take-append-drop}
use lib.Seq.{take_all, take-take, drop-append-le, drop_at}
use borrow.Author.Tests.{eqb-true, eqb-false}
use borrow.Author.Count.{below_more}
use Rattle.bits.specs.Bits.{◌⊻◌, differ, val, number}
use Rattle.bits.proofs.Xor.{xor-zero}
use Rattle.bits.proofs.Numbers.{number-inj}
use Rattle.word.proofs.Distance.{few-turned}
use Rattle.stream.specs.Standing.{word_at, n_at, size, Stands, Placed, frames_in}
use Rattle.stream.specs.Verdict.{RuledOut}
use Rattle.stream.specs.Places.{FirstDamaged, Damaged}
use Rattle.stream.proofs.Words.{word-long, right-passes, not_right}
use Rattle.stream.proofs.Data.{word-later}
use Rattle.stream.proofs.Stand.{stands-long, stands-append}
use Rattle.stream.proofs.Verdicts.{out_stays}
use Rattle.stream.proofs.Scanning.{none-begins}

-- ---- the first damaged word

-- lists that differ in no place are equal
pub differ-zero : (v w : List Bool) → length v ≡ length w → differ v w ≡ 0 → v ≡ w
differ-zero [] [] l e = refl
differ-zero [] (b ∷ w) l e = absurd (omega arith)
differ-zero (a ∷ v) [] l e = absurd (omega arith)
differ-zero (a ∷ v) (b ∷ w) l e = ap₂ ◌∷◌ (xor-zero a b (none (a ⊻ b) (omega arith))) (differ-zero v w (omega arith) (omega arith))
  where
    none : (t : Bool) → val t ≡ 0 → t ≡ false
    none true h = absurd (omega arith)
    none false h = refl

-- what has equal words all through is equal
equal_words : (n : ℕ) (g g' : List Bool) → length g ≡ 32 + 30 * n → length g' ≡ length g
    → ((j : ℕ) → j < suc n → word_at j g' ≡ word_at j g) → g' ≡ g
equal_words zero g g' l m f =
    sym (take_all 32 g' (omega arith)) ∙ f 0 (omega arith) ∙ take_all 32 g (omega arith)
equal_words (suc n) g g' l m f =
    sym (take-append-drop 30 g')
    ∙ ap₂ ◌++◌ front
    (equal_words n (drop 30 g) (drop 30 g') (omega (arith, length-drop 30 g)) (omega (arith, length-drop 30 g, length-drop 30 g'))
    (λ j h. word-later j g' ∙ f (suc j) (omega arith) ∙ sym (word-later j g)))
    ∙ take-append-drop 30 g
  where
    front : take 30 g' ≡ take 30 g
    front =
        sym (take-take 30 32 g' (omega arith)) ∙ ap (take 30) (f 0 (omega arith)) ∙ take-take 30 32 g (omega arith)

-- THERE IS A FIRST, where the lists differ
first-damaged : (n : ℕ) (g g' : List Bool) → length g ≡ 32 + 30 * n → length g' ≡ length g → (g' ≡ g → ⊥)
    → (k : ℕ) × (k < suc n) × FirstDamaged k g g'
first-damaged n g g' l m d = looked (suc n) 0 (omega arith) (λ j h. absurd (not-suc-le-zero h))
  where
    long : (k : ℕ) → k < suc n → length (word_at k g') ≡ length (word_at k g)
    long k h = word-long k g' (omega arith) ∙ sym (word-long k g (omega arith))

    looked : (left k : ℕ) → left + k ≡ suc n → ((j : ℕ) → j < k → word_at j g' ≡ word_at j g) → (k : ℕ) × (k < suc n) × FirstDamaged k g g'
    looked zero k e f = absurd (d (equal_words n g g' l m (λ j h. f j (omega (arith, zero-add k)))))
    looked (suc left) k e f =
        go (eqb (number (word_at k g')) (number (word_at k g))) refl (looked left (suc k) (omega (arith, suc-add left k, add-suc left k)))
      where
        go : (t : Bool) → eqb (number (word_at k g')) (number (word_at k g)) ≡ t
            → (((j : ℕ) → j < suc k → word_at j g' ≡ word_at j g) → (k : ℕ) × (k < suc n) × FirstDamaged k g g') → (k : ℕ) × (k < suc n) × FirstDamaged k g g'
        go true t next =
            next (λ j h. below_more (λ i. word_at i g' ≡ word_at i g) k f
            (number-inj (word_at k g') (word_at k g) (long k (omega (arith, suc-add left k))) (eqb-true _ _ t)) j (omega arith))
        go false t next = (k, omega (arith, suc-add left k), record { before = f; here = λ q. eqb-false _ _ t (ap number q) })

-- ---- ruled out

-- the damaged frame has as many words as far as its first damaged one shows
inside : (k : ℕ) (d d' : List Bool) → ((j : ℕ) → j < k → word_at j d' ≡ word_at j d) → k < size d → k < size d'
unfolding n_at
inside zero d d' f h = omega arith
inside (suc zero) d d' f h = omega arith
inside (suc (suc k)) d d' f h = rw (f 1 (omega arith)) h

-- THE POSITION IS RULED OUT
pub damaged-out : (g g' : List Bool) → Damaged g g' → RuledOut g'
damaged-out g g' x = at (first-damaged (suc (n_at g)) g g' (omega (arith, x.alone)) x.same x.turned)
  where
    at : (k : ℕ) × (k < suc (suc (n_at g))) × FirstDamaged k g g' → RuledOut g'
    at (k, h, f) = record {
      k = k;
      come = come;
      inside = inside k g g' f.before (omega arith);
      fails = not_right k (word_at k g')
          (few-turned (word_at k g) (word_at k g') long long' (right-passes k (word_at k g) (x.stood.each k (omega arith))) some (omega (arith, x.few k f)));
    }
      where
        come : 32 + 30 * k ≤ length g'
        come = omega (arith, x.alone, x.same)

        long : length (word_at k g) ≡ 32
        long = word-long k g (omega (arith, x.same))

        long' : length (word_at k g') ≡ 32
        long' = word-long k g' come

        some : 0 < differ (word_at k g) (word_at k g')
        some = positive (differ (word_at k g) (word_at k g')) refl
          where
            positive : (n : ℕ) → differ (word_at k g) (word_at k g') ≡ n → 0 < n
            positive zero e = absurd (f.here (sym (differ-zero (word_at k g) (word_at k g') (long ∙ sym long') e)))
            positive (suc n) e = omega arith

-- NOTHING BEGINS where that frame began: before it any bits, after it any bits, and the stream s cut anywhere
pub damaged-nowhere : (g g' pre post s e : List Bool) → Damaged g g' → s ++ e ≡ pre ++ (g' ++ post)
    → (h : Placed) → Memᴰ h (frames_in s) → h.at ≡ 2 + length pre → ⊥
damaged-nowhere g g' pre post s e x cut = none-begins (length pre) s falls
  where
    falls : Stands (drop (length pre) s) → ⊥
    falls t = out_stays g' post (damaged-out g g' x) (subst Stands same (stands-append (drop (length pre) s) e t))
      where
        within : length pre ≤ length s
        within = omega (arith, stands-long (drop (length pre) s) t, length-drop (length pre) s)

        same : drop (length pre) s ++ e ≡ g' ++ post
        same = sym (drop-append-le (length pre) s e within) ∙ ap (drop (length pre)) cut ∙ drop_at pre (g' ++ post) (length pre) refl
