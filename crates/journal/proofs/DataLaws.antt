-- The words of a record that keeps the data: where they stand, the header of words 1 and 2 or none, and the frame that they are. Assumes nothing.
use mathlib.Core.Path.{◌≡◌, refl, sym, ap, ap₂, ◌∙◌}
use mathlib.Core.Bool.{Bool, true, false, not}
use mathlib.Core.List.{List, [], ◌∷◌, ◌++◌}
use Prim.Native.Nat.{ℕ, suc, ◌+◌, ◌-◌}
use lib.Dec.{eqb}
use lib.ListN.{length, take, drop, replicate}
use lib.Seq.{drop-drop}
use borrow.Author.Tests.{eqb-true, eq-eqb, ne_eqb}
use Rattle.std.specs.Prelude.{None, Some}
use Rattle.answer.specs.Order.{in_order}
use Rattle.bits.specs.Bits.{bits}
use Rattle.frame.specs.Header.{n_of, preambled, header_of}
use Rattle.frame.specs.Frames.{built_of, framed, frame_of}
use Rattle.frame.specs.declared.Header.{Header}
use Rattle.journal.specs.Bytes.{word_in, words_from}
use Rattle.journal.specs.Journal.{refused_recall, recalled, frame_in, header_found}

-- word 1 from byte 3, word 2 behind it, then the data words
pub words-at : (k n : ℕ) (bs : List ℕ)
    → words_from k (suc (suc n)) (drop 3 bs) ≡ word_in (take k (drop 3 bs)) ∷ word_in (take k (drop (3 + k) bs)) ∷ words_from k n (drop (3 + k + k) bs)
unfolding words_from
words-at k n bs =
    ap (λ ws. word_in (take k (drop 3 bs)) ∷ ws)
    (ap₂ (λ l m. word_in (take k l) ∷ words_from k n m) (drop-drop k 3 bs) (ap (drop k) (drop-drop k 3 bs) ∙ drop-drop k (3 + k) bs))

-- the last number of the order, by word 1 and word 2 as they are read
module _ (n : ℕ) (bs : List ℕ) {first second : ℕ} (e₁ : first ≡ word_in (take 3 (drop 3 bs))) (e₂ : second ≡ word_in (take 3 (drop 6 bs))) where
  frame_at : frame_in n (words_from 3 (suc (suc n)) (drop 3 bs)) ≡ frame_in n (first ∷ second ∷ words_from 3 n (drop 9 bs))
  frame_at = ap (frame_in n) (words-at 3 n bs ∙ sym (ap₂ (λ a b. a ∷ b ∷ words_from 3 n (drop 9 bs)) e₁ e₂))

  pub n-unequal : (n ≡ n_of (bits 24 second) → ⊥) → frame_in n (words_from 3 (suc (suc n)) (drop 3 bs)) ≡ refused_recall 16
  n-unequal h = frame_at ∙ rw (ne_eqb n (n_of (bits 24 second)) h)

  module _ (h : n ≡ n_of (bits 24 second)) where
    pub preamble-wrong : preambled (bits 24 first) ≡ false → frame_in n (words_from 3 (suc (suc n)) (drop 3 bs)) ≡ refused_recall 16
    preamble-wrong p = frame_at ∙ rw (eq-eqb n (n_of (bits 24 second)) h, p)

    pub both_right : preambled (bits 24 first) ≡ true
        → frame_in n (words_from 3 (suc (suc n)) (drop 3 bs)) ≡ recalled n (first ∷ second ∷ words_from 3 n (drop 9 bs))
    both_right p = frame_at ∙ rw (eq-eqb n (n_of (bits 24 second)) h, p)

-- the frame of word 1, word 2 and N data words
pub frame_is : (n first second : ℕ) (ws : List ℕ) → length ws ≡ n
    → built_of (header_of (bits 24 first) (bits 24 second)) n (ws ++ replicate (31 - n) 0) ≡ frame_of (first ∷ second ∷ ws)
unfolding framed frame_of
frame_is n first second ws l =
    ap (λ m. built_of (header_of (bits 24 first) (bits 24 second)) m (ws ++ replicate (31 - m) 0)) (sym l)

-- no header: another N, or else a wrong preamble; or the header, and then both are right
module _ (n first second : ℕ) where
  pub found-none : {A : Type 0} {x y : A} → header_found n first second ≡ None → ((n ≡ n_of (bits 24 second) → ⊥) → x ≡ y)
      → (n ≡ n_of (bits 24 second) → preambled (bits 24 first) ≡ false → x ≡ y) → x ≡ y
  found-none {x} {y} e other wrong = go _ _ refl refl e
    where
      go : (p q : Bool) → eqb n (n_of (bits 24 second)) ≡ p → preambled (bits 24 first) ≡ q
          → in_order ((not p, 16) ∷ (not q, 16) ∷ []) (λ number. None) (Some (header_of (bits 24 first) (bits 24 second))) ≡ None → x ≡ y
      go false q ep eq e = other (λ h. absurd (let z = sym ep ∙ eq-eqb n (n_of (bits 24 second)) h in cc))
      go true false ep eq e = wrong (eqb-true n (n_of (bits 24 second)) ep) eq
      go true true ep eq e = absurd (cc)

  pub found-some : {h : Header} → header_found n first second ≡ Some h
      → (n ≡ n_of (bits 24 second)) × ((preambled (bits 24 first) ≡ true) × (header_of (bits 24 first) (bits 24 second) ≡ h))
  found-some {h} e = go _ _ refl refl e
    where
      go : (p q : Bool) → eqb n (n_of (bits 24 second)) ≡ p → preambled (bits 24 first) ≡ q
          → in_order ((not p, 16) ∷ (not q, 16) ∷ []) (λ number. None) (Some (header_of (bits 24 first) (bits 24 second))) ≡ Some h
          → (n ≡ n_of (bits 24 second)) × ((preambled (bits 24 first) ≡ true) × (header_of (bits 24 first) (bits 24 second) ≡ h))
      go false q ep eq e = absurd (cc)
      go true false ep eq e = absurd (cc)
      go true true ep eq e = (eqb-true n (n_of (bits 24 second)) ep, (eq, cc))
