-- Words put into a buffer one after the other, five bytes each: one word, the loop over many, and a frame's. Assumes nothing.
use mathlib.Core.Path.{◌≡◌, sym, ap, ap₂, ◌∙◌}
use mathlib.Core.List.{List, [], ◌∷◌}
use Prim.Native.Nat.{ℕ, ◌+◌, ◌*◌, ◌≤◌, ◌<◌}
use native.Mathlib.Numerals.{add-one}
use native.Mathlib.Omega.{arith}
use lib.ListN.{length, drop, get_or, drop_of_length-le}
use lib.Seq.{sets, drop-cons}
use Rattle.bits.proofs.Stores.{sets-append}
use Rattle.word.specs.Answer.{sent_at}
use Rattle.writer.specs.Sending.{bytes_for, bytes_after, pair_after}
use Rattle.writer.proofs.Bytes.{length-bytes}
use Rattle.writer.proofs.Carrying.{bytes_next, bytes_one, pair_lt}

-- a word's five bytes, then the others after them
put_next : (l : List ℕ) (at c w : ℕ) (ws : List ℕ)
    → sets l at (bytes_after c (w ∷ ws)) ≡ sets (sets l at (bytes_after c (w ∷ []))) (at + 5) (bytes_after (pair_after c (w ∷ [])) ws)
put_next l at c w ws =
    ap (sets l at) (bytes_next c w ws)
    ∙ sets-append (bytes_for 5 (sent_at c w)) (bytes_after (pair_after c (w ∷ [])) ws) l at
    ∙ ap₂ (λ bs n. sets (sets l at bs) (at + n) (bytes_after (pair_after c (w ∷ [])) ws)) (sym (bytes_one c w)) (length-bytes 5 (sent_at c w))

-- ---- the loop over words

-- i words are put: what is left, put from here, gives what all of them give from the start
pub record PutSoFar (words : List ℕ) (at carried : ℕ) (l₀ l : List ℕ) (c i : ℕ) : Type 0 where
  pub two-bits : c < 4
  pub pairs : pair_after carried words ≡ pair_after c (drop i words)
  pub bytes : sets l₀ at (bytes_after carried words) ≡ sets l (at + 5 * i) (bytes_after c (drop i words))

pub put-turn : (words : List ℕ) (at carried : ℕ) (l₀ l : List ℕ) (c i : ℕ) → PutSoFar words at carried l₀ l c i → i < length words
    → {l' : List ℕ} {c' : ℕ} → c' ≡ pair_after c (get_or words i 0 ∷ []) → l' ≡ sets l (at + 5 * i) (bytes_after c (get_or words i 0 ∷ []))
    → PutSoFar words at carried l₀ l' c' (i + 1)
put-turn words at carried l₀ l c i s h {l'} {c'} e f = record {
  two-bits = rw e (pair_lt c (get_or words i 0 ∷ []) s.two-bits);
  pairs = s.pairs ∙ ap (pair_after c) left ∙ ap (λ k. pair_after k later) (sym e);
  bytes =
      s.bytes
      ∙ ap (λ ws. sets l (at + 5 * i) (bytes_after c ws)) left
      ∙ put_next l (at + 5 * i) c (get_or words i 0) later
      ∙ ap₂ (λ m k. sets m k (bytes_after (pair_after c (get_or words i 0 ∷ [])) later)) (sym f) place
      ∙ ap (λ k. sets l' (at + 5 * (i + 1)) (bytes_after k later)) (sym e);
}
  where
    later : List ℕ
    later = drop (i + 1) words

    left : drop i words ≡ get_or words i 0 ∷ later
    left = drop-cons words i 0 h ∙ ap (λ k. get_or words i 0 ∷ drop k words) (sym (add-one i))

    place : at + 5 * i + 5 ≡ at + 5 * (i + 1)
    place = omega arith

pub put_all : (words : List ℕ) (at carried : ℕ) (l₀ l : List ℕ) (c i : ℕ) → PutSoFar words at carried l₀ l c i → length words ≤ i
    → (c ≡ pair_after carried words) × (l ≡ sets l₀ at (bytes_after carried words))
unfolding bytes_for
put_all words at carried l₀ l c i s h = (sym (rw none at s.pairs), sym (rw none at s.bytes))
  where
    none : drop i words ≡ []
    none = drop_of_length-le words {i = i} h

-- ---- a frame: word 1, word 2, the data words

pub put-frame : (l : List ℕ) (c first second : ℕ) (ws : List ℕ) {l₁ l₂ l₃ : List ℕ} {c₁ c₂ c₃ : ℕ}
    → (c₁ ≡ pair_after c (first ∷ [])) × (l₁ ≡ sets l 0 (bytes_after c (first ∷ [])))
    → (c₂ ≡ pair_after c₁ (second ∷ [])) × (l₂ ≡ sets l₁ 5 (bytes_after c₁ (second ∷ [])))
    → (c₃ ≡ pair_after c₂ ws) × (l₃ ≡ sets l₂ 10 (bytes_after c₂ ws))
    → (c₃ ≡ pair_after c (first ∷ second ∷ ws)) × (l₃ ≡ sets l 0 (bytes_after c (first ∷ second ∷ ws)))
put-frame l c first second ws u v w = (
  w.0 ∙ ap (λ k. pair_after k ws) (v.0 ∙ ap (λ k. pair_after k (second ∷ [])) u.0),
  w.1
      ∙ ap₂ (λ m k. sets m 10 (bytes_after k ws)) v.1 v.0
      ∙ ap₂ (λ m k. sets (sets m 5 (bytes_after k (second ∷ []))) 10 (bytes_after (pair_after k (second ∷ [])) ws)) u.1 u.0
      ∙ sym (put_next l 0 c first (second ∷ ws) ∙ put_next (sets l 0 (bytes_after c (first ∷ []))) 5 (pair_after c (first ∷ [])) second ws),
)
