-- A frame within its widths and the data of its words are inverse. Assumes nothing.
use mathlib.Core.Path.{◌≡◌, refl, sym, ap, ap₂, ◌∙◌}
use mathlib.Core.Bool.{Bool, true, false}
use mathlib.Core.List.{List, [], ◌∷◌, ◌++◌}
use Prim.Native.Nat.{ℕ, zero, suc, ◌+◌, ◌-◌, ◌^◌, ◌≤◌, ◌<◌}
use native.Mathlib.Nat.{mod-eq_of_lt}
use native.Mathlib.Omega.{arith}
use lib.ListN.{length, take, drop, get_or, replicate, length-append, length-replicate, length-drop, take-append-drop}
use lib.Seq.{length-take-le, take-append_seam, drop-append_seam}
use borrow.Author.Tests.{ltb-false, le-ltb}
use Rattle.bits.specs.Bits.{bits, number, is_nonzero}
use Rattle.bits.proofs.Numbers.{length-bits, number-bits, number_lt, bits-number}
use Rattle.frame.specs.Header.{preambled, n_of, header_of, first_word, second_word}
use Rattle.frame.specs.Frames.{built_of, framed, after_pair, bare, data_words, words_of, frame_of, Below}
use Rattle.frame.specs.Widths.{any_of, is_wide, header_outside, pair_outside, outside}
use Rattle.frame.specs.declared.Header.{Header}
use Rattle.frame.specs.declared.Carried.{Carried}
use Rattle.frame.specs.declared.Frame.{Frame}
use Rattle.frame.proofs.HeaderLaws.{length-first, length-second, header-words, first-header, second-header, header-inside}
use Rattle.frame.proofs.WidthLaws.{both_false, any_append, any-zeros, any_below, below-any, zeros-any}

-- ---- words of 24 bits

below-24 : (bs : List Bool) → length bs ≡ 24 → number bs < 2 ^ 24
below-24 bs l = rw l at (number_lt bs)

number-24 : (w : ℕ) → w < 2 ^ 24 → number (bits 24 w) ≡ w
number-24 w h = number-bits 24 w ∙ mod-eq_of_lt h

pub below-take : (n : ℕ) (ws : List ℕ) → Below ws → Below (take n ws)
below-take zero ws b = tt
below-take (suc n) [] b = tt
below-take (suc n) (w ∷ ws) b = (b.0, below-take n ws b.1)

pub below_at : (i : ℕ) (ws : List ℕ) → Below ws → get_or ws i 0 < 2 ^ 24
below_at i [] b = omega arith
below_at zero (w ∷ ws) b = b.0
below_at (suc i) (w ∷ ws) b = below_at i ws b.1

-- ---- what it means that a frame is within its widths

module _ (f : Frame) (e : outside f ≡ false) where
  parts : (header_outside f.header ≡ false) × ((f.n ≤ 31) × (Below f.words
      × ((any_of is_nonzero (drop f.n f.words) ≡ false) × (pair_outside f.carried ≡ false))))
  unfolding outside
  parts =
      let p = both_false _ _ e in
      let z = both_false _ _ p.0 in
      let w = both_false _ _ z.0 in
      let n = both_false _ _ w.0 in
      (n.0, (ltb-false 31 f.n n.1, (below-any f.words w.1, (z.1, p.1))))

  pub header-within : header_outside f.header ≡ false
  header-within = parts.0

  pub n_within : f.n ≤ 31
  n_within = parts.1.0

  pub words-below : Below f.words
  words-below = parts.1.1.0

  pub pair-within : pair_outside f.carried ≡ false
  pair-within = parts.1.1.1.1

  module _ (full : length f.words ≡ 31) where
    pub length-data : length (data_words f) ≡ f.n
    length-data = length-take-le f.n f.words (omega (arith, n_within))

    -- past N there are zeros
    pub words-padded : f.words ≡ data_words f ++ replicate (31 - f.n) 0
    words-padded =
        sym (take-append-drop f.n f.words)
        ∙ ap (λ ws. data_words f ++ ws) (zeros-any (drop f.n f.words) parts.1.1.1.0 ∙ ap (λ k. replicate k 0) rest)
      where
        rest : length (drop f.n f.words) ≡ 31 - f.n
        rest = length-drop f.n f.words ∙ ap (λ k. k - f.n) full

    pub length-words : length (words_of f) ≡ 2 + f.n
    unfolding words_of
    length-words = omega (arith, length-data)

    -- its header and its data words are all of it but the pair
    pub framed-again : framed f.header (data_words f) ≡ bare f
    unfolding framed after_pair
    framed-again =
        ap (λ n. built_of f.header n (data_words f ++ replicate (31 - n) 0)) length-data
        ∙ ap (λ ws. built_of f.header f.n ws) (sym words-padded)

    -- FRAME TO WORDS AND BACK, without the pair
    pub frame-words : frame_of (words_of f) ≡ bare f
    unfolding words_of frame_of
    frame-words =
        ap₂ (λ a b. framed (header_of a b) (data_words f))
        (bits-number 24 (first_word f.header) (length-first f.header))
        (bits-number 24 (second_word f.header f.n) (length-second f.header f.n))
        ∙ ap (λ h. framed h (data_words f)) (header-words f.header f.n header-within n_within)
        ∙ framed-again

  pub below-words : Below (words_of f)
  unfolding words_of
  below-words = (first_below, (second_below, below-take f.n f.words words-below))
    where
      first_below : number (first_word f.header) < 2 ^ 24
      first_below = below-24 (first_word f.header) (length-first f.header)

      second_below : number (second_word f.header f.n) < 2 ^ 24
      second_below = below-24 (second_word f.header f.n) (length-second f.header f.n)

-- ---- a frame that is made of words

pub data-framed : (h : Header) (ws : List ℕ) → data_words (framed h ws) ≡ ws
unfolding framed
data-framed h ws = take-append_seam ws (replicate (31 - length ws) 0)

pub length-framed : (h : Header) (ws : List ℕ) → length ws ≤ 31 → length (framed h ws).words ≡ 31
unfolding framed
length-framed h ws l = omega (arith, length-append ws (replicate (31 - length ws) 0), length-replicate {A = ℕ} (31 - length ws) 0)

pub framed-inside : (h : Header) (ws : List ℕ) → header_outside h ≡ false → Below ws → length ws ≤ 31 → outside (framed h ws) ≡ false
unfolding framed outside pair_outside
framed-inside h ws e b l =
    rw (
      e,
      le-ltb 31 (length ws) l,
      any_append is_wide ws (replicate (31 - length ws) 0),
      any_below ws b,
      any-zeros is_wide refl (31 - length ws),
      drop-append_seam ws (replicate (31 - length ws) 0),
      any-zeros is_nonzero refl (31 - length ws),
    )

-- WORDS TO FRAME AND BACK
pub words-frame : (first second : ℕ) (ws : List ℕ) → Below (first ∷ second ∷ ws)
    → preambled (bits 24 first) ≡ true → n_of (bits 24 second) ≡ length ws → words_of (frame_of (first ∷ second ∷ ws)) ≡ first ∷ second ∷ ws
unfolding words_of frame_of framed
words-frame first second ws b p n =
    ap₂ (λ a l. a ∷ l) (ap number (first-header (bits 24 first) (bits 24 second) (length-bits 24 first) p) ∙ number-24 first b.0)
    (ap₂ (λ a l. a ∷ l)
    (ap (λ k. number (second_word (header_of (bits 24 first) (bits 24 second)) k)) (sym n)
    ∙ ap number (second-header (bits 24 first) (bits 24 second) (length-bits 24 second)) ∙ number-24 second b.1.0)
    (take-append_seam ws (replicate (31 - length ws) 0)))

pub frame-inside : (first second : ℕ) (ws : List ℕ) → Below ws → length ws ≤ 31 → outside (frame_of (first ∷ second ∷ ws)) ≡ false
unfolding frame_of
frame-inside first second ws b l =
    framed-inside (header_of (bits 24 first) (bits 24 second)) ws (header-inside (bits 24 first) (bits 24 second)) b l

-- ---- a frame after other carried bits

pub after-inside : (c : Carried) (f : Frame) → pair_outside c ≡ false → outside f ≡ false → outside (after_pair c f) ≡ false
unfolding outside after_pair
after-inside c f p e =
    rw (
      header-within f e,
      le-ltb 31 f.n (n_within f e),
      any_below f.words (words-below f e),
      (parts f e).1.1.1.0,
      p,
    )

pub words-after : (c : Carried) (f : Frame) → words_of (after_pair c f) ≡ words_of f
unfolding words_of after_pair
words-after c f = refl

pub after-after : (c c' : Carried) (f : Frame) → after_pair c (after_pair c' f) ≡ after_pair c f
unfolding after_pair
after-after c c' f = refl
