-- The data words of the frame that waits, put in two after two, and the frame that they make. Assumes nothing.
use Rattle.std.proofs.Common.{◌≡◌, ℕ, suc, ◌+◌, ◌-◌, ◌<◌, ◌≤◌, Bool, List, [], ◌∷◌, ◌++◌, set, replicate, sym, refl, ap, ◌∙◌, subst, append_assoc, add-one, arith}
use native.Mathlib.Decide.{dec_lt}
use lib.Seq.{set_at}
use Rattle.bits.specs.Bits.{number}
use Rattle.word.specs.Word.{data_of}
use Rattle.frame.specs.Frames.{framed, after_pair}
use Rattle.frame.specs.declared.Header.{Header}
use Rattle.frame.specs.declared.Carried.{Carried}
use Rattle.stream.specs.Standing.{word_at, n_at, data_from, frame_at}
use Rattle.stream.proofs.Words.{length-data_from, data-more}
use Rattle.reader.specs.Taking.{HeaderIn}

-- k data words, and zeros
abbrev pub gathered : ℕ → List Bool → List ℕ
gathered k d = data_from k 2 d ++ replicate (31 - k) 0

pub gather_none : (d : List Bool) → replicate {A = ℕ} 31 0 ≡ gathered 0 d
unfolding data_from
gather_none d = refl

gather-step : (ws : List ℕ) (k x : ℕ) (d : List Bool) → ws ≡ gathered k d → k < 31 → x ≡ number (data_of (word_at (2 + k) d))
    → set ws k x ≡ gathered (k + 1) d
gather-step ws k x d e h f =
    rw (e, add-one k, zeros, f, data-more k 2 d)
    (set_at (data_from k 2 d) 0 (replicate (31 - suc k) 0) (number (data_of (word_at (2 + k) d))) k (length-data_from k 2 d)
    ∙ sym (append_assoc (data_from k 2 d) (number (data_of (word_at (2 + k) d)) ∷ []) (replicate (31 - suc k) 0)))
  where
    less : 31 - k ≡ suc (31 - suc k)
    less = omega arith

    zeros : replicate {A = ℕ} (31 - k) 0 ≡ 0 ∷ replicate (31 - suc k) 0
    zeros = ap (λ n. replicate {A = ℕ} n 0) less

-- the same word once more
gather-again : (k x : ℕ) (d : List Bool) → x ≡ number (data_of (word_at (2 + k) d)) → set (gathered (k + 1) d) k x ≡ gathered (k + 1) d
gather-again k x d e =
    rw (e, add-one k, data-more k 2 d)
    (ap (λ ws. set ws k word) (append_assoc (data_from k 2 d) (word ∷ []) zeros) ∙ set_at (data_from k 2 d) word zeros word k (length-data_from k 2 d)
    ∙ sym (append_assoc (data_from k 2 d) (word ∷ []) zeros))
  where
    word : ℕ
    word = number (data_of (word_at (2 + k) d))

    zeros : List ℕ
    zeros = replicate (31 - suc k) 0

-- two words, of which the second is the next or the first once more
pub gather-two : (ws : List ℕ) (k j x y : ℕ) (d : List Bool) → ws ≡ gathered k d → k ≤ j → j ≤ k + 1 → j < 31
    → x ≡ number (data_of (word_at (2 + k) d)) → y ≡ number (data_of (word_at (2 + j) d)) → set (set ws k x) j y ≡ gathered (j + 1) d
gather-two ws k j x y d e h l b ex ey = go (dec_lt k j)
  where
    one : set ws k x ≡ gathered (k + 1) d
    one = gather-step ws k x d e (omega arith) ex

    go : Dec (k < j) → set (set ws k x) j y ≡ gathered (j + 1) d
    go (yes n) = gather-step (set ws k x) j y d (one ∙ ap (λ i. gathered i d) next) b ey
      where
        next : k + 1 ≡ j
        next = omega (arith, n)
    go (no n) = subst (λ i. set (set ws k x) i y ≡ gathered (i + 1) d) same (ap (λ vs. set vs k y) one ∙ gather-again k y d (ey ∙ ap word (sym same)))
      where
        same : k ≡ j
        same = omega (arith, n)

        word : ℕ → ℕ
        word i = number (data_of (word_at (2 + i) d))

pub frame-law : (d : List Bool) (h : Header) (c : Carried) (n : ℕ) (ws : List ℕ) → HeaderIn d h c n → ws ≡ gathered n d
    → record { header = h; carried = c; n = n; words = ws } ≡ frame_at d
unfolding frame_at framed after_pair
frame-law d h c n ws e ew = rw (e.words, e.pair, ew, length-data_from (n_at d) 2 d, e.count)
