-- A window with one turned bit is mended to what it was, one with two is not touched; and the window after mending. Assumes nothing.
use mathlib.Core.Path.{◌≡◌, refl, sym, ap, ◌∙◌}
use mathlib.Core.Bool.{Bool, true, false, true≢false}
use mathlib.Core.Logic.{◌⊎◌, inl, inr}
use mathlib.Core.List.{List, [], ◌∷◌}
use Prim.Native.Nat.{ℕ, zero, suc, ◌+◌, ◌*◌, ◌-◌, ◌^◌, ◌≤◌, ◌<◌}
use native.Mathlib.Omega.{arith}
use lib.Bits.{bit_xor, xor_zero_l, xor_comm, xor_lt}
use lib.ListN.{length, get_or}
use Rattle.bits.specs.Bits.{◌⊕◌, odd, val, weight, differ, is_odd, bits, number}
use Rattle.bits.proofs.Xor.{xor_self, length-xors, odd-weight}
use Rattle.bits.proofs.Numbers.{length-bits, bits-xor}
use Rattle.word.specs.Word.{remainder_of, passes}
use Rattle.word.specs.Answer.{remainder_at}
use Rattle.word.proofs.Distance.{few-turned}
use Rattle.word.proofs.Testing.{odd-told}
use Rattle.mender_words.specs.Words.{own_remainders, place_of, mended_by, broken_word, window_after, mended_to}
use Rattle.mender_words.specs.declared.MendedWord.TheVariants.{Sound, Mended, Broken}
use Rattle.mender_words.proofs.Places.{alone, own-remainder, own-place}
use Rattle.mender_words.proofs.Mending.{number-of, twice, remainder-of-xor, zero-passed, by-mended, turned-sound}

-- ---- ONE TURNED BIT is turned back

-- a list with one bit set
record Lone (e : List Bool) : Type 0 where
  place : ℕ
  low : place < length e
  is : number e ≡ 2 ^ (length e - suc place)

none-set : (e : List Bool) → weight e ≡ 0 → number e ≡ 0
unfolding number
none-set [] h = refl
none-set (true ∷ e) h = absurd (omega arith)
none-set (false ∷ e) h = omega (arith, none-set e (omega arith))

lone : (e : List Bool) → weight e ≡ 1 → Lone e
unfolding number
lone [] h = absurd (omega arith)
lone (true ∷ e) h =
    let plain : 1 * 2 ^ length e + number e ≡ 2 ^ length e = omega (arith, none-set e (omega arith)) in
    let same : length e ≡ suc (length e) - 1 = omega arith in
    record { place = 0; low = omega arith; is = plain ∙ ap (λ k. 2 ^ k) same }
lone (false ∷ e) h =
    let r = lone e (omega arith) in
    let plain : 0 * 2 ^ length e + number e ≡ number e = omega arith in
    let same : length e - suc r.place ≡ suc (length e) - suc (suc r.place) = omega arith in
    record { place = suc r.place; low = omega (arith, r.low); is = plain ∙ r.is ∙ ap (λ k. 2 ^ k) same }

module _ (u v : ℕ) (hu : u < 2 ^ 32) (hv : v < 2 ^ 32) (p : passes (bits 32 u) ≡ true) where
  same-long : length (bits 32 u) ≡ length (bits 32 v)
  same-long = length-bits 32 u ∙ sym (length-bits 32 v)

  turned-long : length (bits 32 u ⊕ bits 32 v) ≡ 32
  turned-long = length-xors (bits 32 u) (bits 32 v) same-long ∙ length-bits 32 v

  -- what was turned, as a number
  turned-number : number (bits 32 u ⊕ bits 32 v) ≡ bit_xor u v
  turned-number = ap number (sym (bits-xor 32 u v)) ∙ number-of (bit_xor u v) (xor_lt 32 u v hu hv)

  -- a window that passed leaves the remainder of what was turned
  left_over_lem : (i : ℕ) → i < 32 → bit_xor u v ≡ alone i → remainder_at v ≡ get_or own_remainders i 0
  left_over_lem i h e =
      sym (xor_zero_l (remainder_at v)) ∙ ap (λ r. bit_xor r (remainder_at v)) (sym (zero-passed u p))
      ∙ sym (remainder-of-xor u v) ∙ ap remainder_at e ∙ own-remainder i h

  turned-fails : 0 < differ (bits 32 u) (bits 32 v) → differ (bits 32 u) (bits 32 v) < 4 → passes (bits 32 v) ≡ false
  turned-fails lo hi = few-turned (bits 32 u) (bits 32 v) (length-bits 32 u) (length-bits 32 v) p lo hi

  turned-odd : odd (remainder_of (bits 32 v)) ≡ is_odd (differ (bits 32 u) (bits 32 v))
  turned-odd =
      odd-told (bits 32 u) (bits 32 v) (length-bits 32 u) (length-bits 32 v) p ∙ sym (odd-weight (bits 32 u ⊕ bits 32 v))

  pub one-back : differ (bits 32 u) (bits 32 v) ≡ 1 → mended_by v ≡ Mended u
  one-back d =
      by-mended v (λ m. m ≡ Mended u) (λ q. absurd (true≢false (sym q ∙ fails)))
      (λ q o. ap Mended (ap (λ b. bit_xor v b) (sym bit) ∙ ap (bit_xor v) (xor_comm u v) ∙ back))
      (λ q o. absurd (true≢false (sym is_one ∙ o)))
    where
      fails : passes (bits 32 v) ≡ false
      fails = turned-fails (omega arith) (omega arith)

      is_one : odd (remainder_of (bits 32 v)) ≡ true
      is_one = turned-odd ∙ ap is_odd d

      l : Lone (bits 32 u ⊕ bits 32 v)
      l = lone (bits 32 u ⊕ bits 32 v) d

      low : l.place < 32
      low = omega (arith, l.low, turned-long)

      value : bit_xor u v ≡ alone l.place
      value = sym turned-number ∙ l.is ∙ ap (λ k. 2 ^ (k - suc l.place)) turned-long ∙ ap (λ k. 2 ^ k) last
        where
          last : 32 - suc l.place ≡ 31 - l.place
          last = omega (arith, low)

      bit : bit_xor u v ≡ 2 ^ (31 - place_of (remainder_at v))
      bit = value ∙ ap (λ k. 2 ^ (31 - k)) (sym (ap place_of (left_over_lem l.place low value) ∙ own-place l.place low))

      back : bit_xor v (bit_xor v u) ≡ u
      back = xor_comm v (bit_xor v u) ∙ ap (λ x. bit_xor x v) (xor_comm v u) ∙ twice u v hu hv

  -- TWO TURNED BITS are never touched
  pub two-kept : differ (bits 32 u) (bits 32 v) ≡ 2 → mended_by v ≡ Broken
  two-kept d =
      by-mended v (λ m. m ≡ Broken) (λ q. absurd (true≢false (sym q ∙ turned-fails (omega arith) (omega arith))))
      (λ q o. absurd (true≢false (sym o ∙ turned-odd ∙ ap is_odd d))) (λ q o. refl)

-- ---- the window after mending

sound-is : (v : ℕ) → passes (bits 32 v) ≡ true → Sound ≡ mended_by v
sound-is v p = by-mended v (λ m. Sound ≡ m) (λ q. refl) (λ q o. absurd (true≢false (sym p ∙ q))) (λ q o. absurd (true≢false (sym p ∙ q)))

-- what is found: the window that was kept, sound or mended
pub found_back : (u v : ℕ) → u < 2 ^ 32 → v < 2 ^ 32 → passes (bits 32 u) ≡ true → differ (bits 32 u) (bits 32 v) ≤ 1
    → (mended_by v ≡ Mended u) ⊎ ((mended_by v ≡ Sound) × (v ≡ u))
found_back u v hu hv p d = go (differ (bits 32 u) (bits 32 v)) refl d
  where
    go : (n : ℕ) → differ (bits 32 u) (bits 32 v) ≡ n → n ≤ 1 → (mended_by v ≡ Mended u) ⊎ ((mended_by v ≡ Sound) × (v ≡ u))
    go zero e h = inr (ap mended_by (sym same) ∙ sym (sound-is u p), sym same)
      where
        same : u ≡ v
        same =
            sym (twice u v hu hv) ∙ ap (λ x. bit_xor x v) (sym (turned-number u v hu hv p) ∙ none-set (bits 32 u ⊕ bits 32 v) e) ∙ xor_zero_l v
    go (suc zero) e h = inl (one-back u v hu hv p e)
    go (suc (suc n)) e h = absurd (omega arith)

pub back_to : (u v : ℕ) → u < 2 ^ 32 → v < 2 ^ 32 → passes (bits 32 u) ≡ true → differ (bits 32 u) (bits 32 v) ≤ 1 → mended_to v ≡ u
unfolding mended_to
back_to u v hu hv p d = go (found_back u v hu hv p d)
  where
    go : (mended_by v ≡ Mended u) ⊎ ((mended_by v ≡ Sound) × (v ≡ u)) → window_after v (mended_by v) ≡ u
    go (inl e) = ap (window_after v) e
    go (inr e) = ap (window_after v) e.0 ∙ e.1

-- a broken window fails as it is, and stays
pub broken-fails : (v : ℕ) → broken_word (mended_by v) ≡ true → (mended_to v ≡ v) × (passes (bits 32 v) ≡ false)
unfolding mended_to
broken-fails v =
    by-mended v (λ m. broken_word m ≡ true → (window_after v m ≡ v) × (passes (bits 32 v) ≡ false)) (λ q e. absurd (true≢false (sym e)))
    (λ q o e. absurd (true≢false (sym e))) (λ q o e. (refl, q))

pub mended-low : (v : ℕ) → v < 2 ^ 32 → mended_to v < 2 ^ 32
unfolding mended_to
mended-low v h = by-mended v (λ m. window_after v m < 2 ^ 32) (λ q. h) (λ q o. (turned-sound v o).low h) (λ q o. h)

-- at most one bit is turned
differ_self : (a : List Bool) → differ a a ≡ 0
differ_self [] = refl
differ_self (x ∷ a) = omega (arith, ap val (xor_self x), differ_self a)

pub mended-near : (v : ℕ) → differ (bits 32 v) (bits 32 (mended_to v)) ≤ 1
unfolding mended_to
mended-near v =
    by-mended v (λ m. differ (bits 32 v) (bits 32 (window_after v m)) ≤ 1) (λ q. omega (arith, differ_self (bits 32 v)))
    (λ q o. omega (arith, (turned-sound v o).one)) (λ q o. omega (arith, differ_self (bits 32 v)))
