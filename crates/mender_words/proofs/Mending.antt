-- Mending a window: what the code's tests say of it, and what is promised. Assumes nothing.
use mathlib.Core.Path.{◌≡◌, refl, sym, ap, ap₂, subst, ◌∙◌}
use mathlib.Core.Bool.{Bool, true, false, cond}
use mathlib.Core.List.{List, [], ◌∷◌}
use Prim.Native.Nat.{ℕ, zero, suc, ◌-◌, ◌%◌, ◌^◌, ◌<◌}
use native.Mathlib.Nat.{mod-eq_of_lt}
use native.Mathlib.Omega.{arith}
use lib.Bits.{bit_xor, xor_self as bit_xor-self, xor_lt}
use lib.Count.{ones}
use lib.ListN.{length}
use borrow.Author.Tests.{eqb-true, eq-eqb}
use Rattle.bits.specs.Bits.{◌⊻◌, ◌⊕◌, odd, weight, differ, is_nonzero, bits, number}
use Rattle.bits.proofs.Xor.{xor_self, xor_assoc, xor-cancel}
use Rattle.bits.proofs.Numbers.{length-bits, number-bits, number_lt, bits-number, bits-xor, number-xor}
use Rattle.word.specs.Word.{remainder_of, passes}
use Rattle.word.specs.Answer.{tested_by, remainder_at}
use Rattle.word.proofs.Linearity.{remainder-xor}
use Rattle.word.proofs.Testing.{six-long, tested-passed, tested-failed, FailedWith, ones_odd}
use Rattle.mender_words.specs.Words.{place_of, turned_at, mended_by}
use Rattle.mender_words.specs.declared.MendedWord.{MendedWord}
use Rattle.mender_words.specs.declared.MendedWord.TheVariants.{Sound, Mended, Broken}
use Rattle.mender_words.proofs.Places.{alone, alone-low, own-remainder, alone-one, Placed, every-place}
use Rattle.std.specs.Prelude.{Ok, Err}

-- ---- the three answers of the code

pub is-sound : (v : ℕ) → tested_by (bits 32 v) ≡ (Ok tt) → Sound ≡ mended_by v
unfolding mended_by
is-sound v e = simp (tested-passed (bits 32 v) e)

module _ (v r : ℕ) (e : tested_by (bits 32 v) ≡ Err r) where
  failed : FailedWith (bits 32 v) r
  failed = tested-failed (bits 32 v) r e

  pub below : r < 64
  below = let n = rw (six-long (bits 32 v)) at (number_lt (remainder_of (bits 32 v))) in omega (arith, n, failed.is)

  -- the ones of the remainder, counted modulo two
  counted : is_nonzero (ones r % 2) ≡ odd (remainder_of (bits 32 v))
  counted = ones_odd r (bits 32 v) failed.is

  pub is-broken : ones r % 2 ≡ 0 → Broken ≡ mended_by v
  unfolding mended_by
  is-broken z = simp (failed.fails, sym counted ∙ ap is_nonzero z)

  some : (n : ℕ) → (n ≡ 0 → ⊥) → is_nonzero n ≡ true
  some zero h = absurd (h refl)
  some (suc n) h = refl

  is_odd_lem : (ones r % 2 ≡ 0 → ⊥) → odd (remainder_of (bits 32 v)) ≡ true
  is_odd_lem n = sym counted ∙ some (ones r % 2) n

  pub odd-six : (ones r % 2 ≡ 0 → ⊥) → odd (bits 6 r) ≡ true
  odd-six n = ap odd (ap (bits 6) failed.is ∙ bits-number 6 (remainder_of (bits 32 v)) (six-long (bits 32 v))) ∙ is_odd_lem n

  pub is-mended : (ones r % 2 ≡ 0 → ⊥) → {b : ℕ} → b ≡ 2 ^ (31 - place_of r) → Mended (bit_xor v b) ≡ mended_by v
  unfolding mended_by
  is-mended n {b} h = simp (failed.fails, is_odd_lem n) (ap (λ k. Mended (bit_xor v k)) (h ∙ ap (λ m. 2 ^ (31 - place_of m)) failed.is))

-- ---- bits and numbers of windows

pub number-of : (v : ℕ) → v < 2 ^ 32 → number (bits 32 v) ≡ v
number-of v h = number-bits 32 v ∙ mod-eq_of_lt h

-- xor twice is nothing
xors-cancel : (a b : List Bool) → length a ≡ length b → a ⊕ b ⊕ b ≡ a
xors-cancel [] [] l = refl
xors-cancel [] (y ∷ b) l = absurd (omega arith)
xors-cancel (x ∷ a) [] l = refl
xors-cancel (x ∷ a) (y ∷ b) l = ap₂ ◌∷◌ (xor-cancel x y) (xors-cancel a b (omega arith))

pub twice : (u v : ℕ) → u < 2 ^ 32 → v < 2 ^ 32 → bit_xor (bit_xor u v) v ≡ u
twice u v hu hv =
    sym (number-of (bit_xor (bit_xor u v) v) (xor_lt 32 (bit_xor u v) v (xor_lt 32 u v hu hv) hv))
    ∙ ap number (bits-xor 32 (bit_xor u v) v ∙ ap (λ l. l ⊕ bits 32 v) (bits-xor 32 u v)
    ∙ xors-cancel (bits 32 u) (bits 32 v) (length-bits 32 u ∙ sym (length-bits 32 v)))
    ∙ number-of u hu

-- the remainder of an xor, as a number
pub remainder-of-xor : (a b : ℕ) → remainder_at (bit_xor a b) ≡ bit_xor (remainder_at a) (remainder_at b)
remainder-of-xor a b =
    ap (λ w. number (remainder_of w)) (bits-xor 32 a b) ∙ ap number (remainder-xor (bits 32 a) (bits 32 b))
    ∙ number-xor 6 (remainder_of (bits 32 a)) (remainder_of (bits 32 b)) (six-long (bits 32 a)) (six-long (bits 32 b))

remainder-six : (v : ℕ) → bits 6 (remainder_at v) ≡ remainder_of (bits 32 v)
remainder-six v = bits-number 6 (remainder_of (bits 32 v)) (six-long (bits 32 v))

remainder-below : (v : ℕ) → remainder_at v < 64
remainder-below v = let n = rw (six-long (bits 32 v)) at (number_lt (remainder_of (bits 32 v))) in omega (arith, n)

passed-zero : (v : ℕ) → remainder_at v ≡ 0 → passes (bits 32 v) ≡ true
unfolding passes
passed-zero v e = eq-eqb (remainder_at v) 0 e

pub zero-passed : (v : ℕ) → passes (bits 32 v) ≡ true → remainder_at v ≡ 0
unfolding passes
zero-passed v e = eqb-true (remainder_at v) 0 e

-- by the answers of mending
pub by-mended : (v : ℕ) (P : MendedWord → Type 0)
    → (passes (bits 32 v) ≡ true → P Sound)
    → (passes (bits 32 v) ≡ false → odd (remainder_of (bits 32 v)) ≡ true → P (Mended (turned_at (place_of (remainder_at v)) v)))
    → (passes (bits 32 v) ≡ false → odd (remainder_of (bits 32 v)) ≡ false → P Broken) → P (mended_by v)
unfolding mended_by
by-mended v P f g h = go (passes (bits 32 v)) refl
  where
    inner : (t : Bool) → odd (remainder_of (bits 32 v)) ≡ t → passes (bits 32 v) ≡ false
        → P (cond t (Mended (turned_at (place_of (remainder_at v)) v)) Broken)
    inner true o p = g p o
    inner false o p = h p o

    go : (t : Bool) → passes (bits 32 v) ≡ t
        → P (cond t Sound (cond (odd (remainder_of (bits 32 v))) (Mended (turned_at (place_of (remainder_at v)) v)) Broken))
    go true p = f p
    go false p = inner (odd (remainder_of (bits 32 v))) refl p

-- ---- A MENDED WINDOW passes, and differs in one bit

pub record MendedTo (v u : ℕ) : Type 0 where
  pub sound : passes (bits 32 u) ≡ true
  pub one : differ (bits 32 v) (bits 32 u) ≡ 1
  pub low : v < 2 ^ 32 → u < 2 ^ 32

pub turned-sound : (v : ℕ) → odd (remainder_of (bits 32 v)) ≡ true → MendedTo v (turned_at (place_of (remainder_at v)) v)
turned-sound v o = record {
  sound =
      passed-zero (bit_xor v (alone p))
      (remainder-of-xor v (alone p) ∙ ap (bit_xor (remainder_at v)) (own-remainder p held.low ∙ held.is) ∙ bit_xor-self (remainder_at v));
  one = ap (λ l. weight (bits 32 v ⊕ l)) (bits-xor 32 v (alone p)) ∙ ap weight (xors-back (bits 32 v) (bits 32 (alone p)) same) ∙ alone-one p held.low;
  low = λ h. xor_lt 32 v (alone p) h (alone-low p held.low);
}
  where
    p : ℕ
    p = place_of (remainder_at v)

    held : Placed (remainder_at v)
    held = every-place (remainder_at v) (remainder-below v) (ap odd (remainder-six v) ∙ o)

    same : length (bits 32 v) ≡ length (bits 32 (alone p))
    same = length-bits 32 v ∙ sym (length-bits 32 (alone p))

    xors-back : (a b : List Bool) → length a ≡ length b → a ⊕ (a ⊕ b) ≡ b
    xors-back [] b l = refl
    xors-back (x ∷ a) [] l = absurd (omega arith)
    xors-back (x ∷ a) (y ∷ b) l = ap₂ ◌∷◌ (sym (xor_assoc x x y) ∙ ap (λ t. t ⊻ y) (xor_self x)) (xors-back a b (omega arith))

pub mended-passes : (v u : ℕ) → mended_by v ≡ Mended u → MendedTo v u
mended-passes v u =
    by-mended v (λ m. m ≡ Mended u → MendedTo v u) (λ p e. absurd (let z : ◌≡◌ {A = ℕ} 0 1 = cc in omega arith))
    (λ p o e. let same : turned_at (place_of (remainder_at v)) v ≡ u = cc in subst (λ x. MendedTo v x) same (turned-sound v o))
    (λ p o e. absurd (let z : ◌≡◌ {A = ℕ} 0 1 = cc in omega arith))
