-- A frame that stands and the data of its words: it is the frame of them, they are its words, and it is within its widths. Assumes nothing.
use mathlib.Core.Path.{◌≡◌, refl, sym, ap, ap₂, ◌∙◌}
use mathlib.Core.Bool.{Bool, true, false}
use mathlib.Core.List.{List, ◌∷◌}
use Prim.Native.Nat.{ℕ, zero, suc, ◌+◌, ◌-◌, ◌*◌, ◌^◌, ◌<◌}
use native.Mathlib.Omega.{arith}
use lib.Dec.{ltb}
use lib.ListN.{length, take, drop, replicate, length-append, length-replicate}
use lib.Seq.{drop-drop}
use Rattle.bits.specs.Bits.{val, number}
use Rattle.bits.proofs.Numbers.{number_lt}
use Rattle.word.specs.Word.{d29*, d30*, data_of}
use Rattle.word.proofs.Sending.{data-number, length-data_of}
use Rattle.frame.specs.Header.{preambled, n_of, header_of}
use Rattle.frame.specs.Frames.{framed, after_pair, words_of, frame_of, Below}
use Rattle.frame.specs.Widths.{pair_outside, outside}
use Rattle.frame.proofs.HeaderLaws.{n-lt}
use Rattle.frame.proofs.FrameLaws.{words-frame, frame-inside, after-inside, words-after}
use Rattle.stream.specs.Standing.{word_at, n_at, size, Stands, data_from, pair_before, frame_at}
use Rattle.stream.proofs.Words.{length-data_from, right-first}

-- ---- a word on

pub word-later : (k : ℕ) (d : List Bool) → word_at k (drop 30 d) ≡ word_at (suc k) d
word-later k d = ap (take 32) (drop-drop (30 * k) 30 d ∙ ap (λ n. drop n d) next)
  where
    next : 30 + 30 * k ≡ 30 * suc k
    next = omega arith

pub data-later : (n k : ℕ) (d : List Bool) → data_from n k (drop 30 d) ≡ data_from n (suc k) d
unfolding data_from
data-later zero k d = refl
data-later (suc n) k d = ap₂ (λ w ws. number (data_of w) ∷ ws) (word-later k d) (data-later n (suc k) d)

-- ---- the data of a word

pub data-below : (w : List Bool) → number (data_of w) < 2 ^ 24
data-below w = rw (length-data_of w) at (number_lt (data_of w))

below-data_from : (n k : ℕ) (d : List Bool) → Below (data_from n k d)
unfolding data_from
below-data_from zero k d = tt
below-data_from (suc n) k d = (data-below (word_at k d), below-data_from n (suc k) d)

-- ---- the frame

-- its words: word 1, word 2, the data words
pub data-all : (d : List Bool) → data_from (size d) 0 d ≡ number (data_of (word_at 0 d)) ∷ number (data_of (word_at 1 d)) ∷ data_from (n_at d) 2 d
unfolding data_from
data-all d = ap (λ n. data_from n 0 d) two
  where
    two : 2 + n_at d ≡ suc (suc (n_at d))
    two = omega arith

pub frame-data : (d : List Bool) → frame_at d ≡ after_pair (pair_before d) (frame_of (data_from (size d) 0 d))
unfolding frame_at frame_of
frame-data d =
    ap (after_pair (pair_before d))
    (ap₂ (λ a b. framed (header_of a b) (data_from (n_at d) 2 d)) (sym (data-number (word_at 0 d))) (sym (data-number (word_at 1 d)))
    ∙ ap frame_of (sym (data-all d)))

pair_inside : (d : List Bool) → pair_outside (pair_before d) ≡ false
unfolding pair_outside
pair_inside d = rw (one (d29* d), one (d30* d))
  where
    one : (b : Bool) → ltb 1 (val b) ≡ false
    one true = refl
    one false = refl

-- WITHIN ITS WIDTHS, whatever the bits
pub frame-within : (d : List Bool) → outside (frame_at d) ≡ false
unfolding n_at
frame-within d =
    ap outside (frame-data d) ∙ after-inside (pair_before d) (frame_of (data_from (size d) 0 d)) (pair_inside d)
    (ap (λ ws. outside (frame_of ws)) (data-all d)
    ∙ frame-inside (number (data_of (word_at 0 d))) (number (data_of (word_at 1 d))) (data_from (n_at d) 2 d) (below-data_from (n_at d) 2 d)
    (omega (arith, length-data_from (n_at d) 2 d, n-lt (data_of (word_at 1 d)))))

pub frame-full : (d : List Bool) → length (frame_at d).words ≡ 31
unfolding frame_at framed after_pair n_at
frame-full d =
    length-append (data_from (n_at d) 2 d) (replicate (31 - length (data_from (n_at d) 2 d)) 0)
    ∙ omega (arith, length-replicate {A = ℕ} (31 - length (data_from (n_at d) 2 d)) 0, length-data_from (n_at d) 2 d, n-lt (data_of (word_at 1 d)))

-- THE WORDS of a frame that stands are the data of the words there
pub words-standing : (d : List Bool) → Stands d → words_of (frame_at d) ≡ data_from (size d) 0 d
unfolding n_at
words-standing d s =
    ap words_of (frame-data d) ∙ words-after (pair_before d) (frame_of (data_from (size d) 0 d)) ∙ ap (λ ws. words_of (frame_of ws)) (data-all d)
    ∙ words-frame (number (data_of (word_at 0 d))) (number (data_of (word_at 1 d))) (data_from (n_at d) 2 d)
    (data-below (word_at 0 d), (data-below (word_at 1 d), below-data_from (n_at d) 2 d))
    (ap preambled (data-number (word_at 0 d)) ∙ right-first (word_at 0 d) (s.each 0 (omega arith)))
    (ap n_of (data-number (word_at 1 d)) ∙ sym (length-data_from (n_at d) 2 d))
    ∙ sym (data-all d)
