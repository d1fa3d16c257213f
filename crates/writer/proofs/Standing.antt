-- What is written after any two carried bits stands, and is that frame after these two. Assumes nothing.
use mathlib.Core.Path.{◌≡◌, refl, sym, ap, ap₂, ◌∙◌}
use mathlib.Core.Bool.{Bool, true, false}
use mathlib.Core.List.{List, [], ◌∷◌, ◌++◌}
use Prim.Native.Nat.{ℕ, zero, suc, ◌+◌, ◌*◌, ◌<◌}
use native.Mathlib.Nat.{add-suc, suc-add, mod-eq_of_lt, le_of_suc-le-suc, not-suc-le-zero}
use native.Mathlib.Omega.{arith}
use lib.ListN.{length, drop, get_or, length-append, drop_of_length-le}
use lib.Seq.{drop-cons}
use Rattle.bits.specs.Bits.{bits, number}
use Rattle.bits.proofs.Numbers.{length-bits, number-bits, bits-number}
use Rattle.word.specs.Word.{nth, data_of, turned_by, parity, passes, sent}
use Rattle.word.proofs.Sending.{data-sent, passes-sent}
use Rattle.frame.specs.Header.{preambled, n_of, header_of, first_word, second_word}
use Rattle.frame.specs.Frames.{zero_pair, framed, after_pair, data_words, words_of, frame_of, Below}
use Rattle.frame.specs.Widths.{outside}
use Rattle.frame.specs.declared.Frame.{Frame}
use Rattle.frame.proofs.HeaderLaws.{length-first, length-second, n-words, first-preambled}
use Rattle.frame.proofs.FrameLaws.{below_at, header-within, n_within, length-data, below-words, frame-words, after-after}
use Rattle.stream.specs.Standing.{word_at, right, n_at, Stands, data_from, pair_before, frame_at}
use Rattle.stream.proofs.Data.{word-later}
use Rattle.writer.specs.Sending.{sent_from, sent_bits}
use Rattle.writer.proofs.Carrying.{length-sent_from}

-- ---- the words of what is sent

-- the first with the two bits before it, and what follows from its last two bits on
first-word : (a b : Bool) (w : ℕ) (ws : List ℕ) (rest : List Bool) → word_at 0 (a ∷ b ∷ (sent_from a b (w ∷ ws) ++ rest)) ≡ a ∷ b ∷ sent a b (bits 24 w)
unfolding sent_from sent turned_by parity
first-word a b w ws rest = refl

pub later-words : (a b : Bool) (w : ℕ) (ws : List ℕ) (rest : List Bool)
    → let s = sent a b (bits 24 w) in
    drop 30 (a ∷ b ∷ (sent_from a b (w ∷ ws) ++ rest)) ≡ nth s 29 ∷ nth s 30 ∷ (sent_from (nth s 29) (nth s 30) ws ++ rest)
unfolding sent_from sent turned_by parity
later-words a b w ws rest = refl

-- a window that a word was sent as, after some two bits
record SentAs (w : List Bool) (n : ℕ) : Type 0 where
  a : Bool
  b : Bool
  is : w ≡ a ∷ b ∷ sent a b (bits 24 n)

word-sent : (k : ℕ) (a b : Bool) (ws : List ℕ) (rest : List Bool) → k < length ws → SentAs (word_at k (a ∷ b ∷ (sent_from a b ws ++ rest))) (get_or ws k 0)
word-sent k a b [] rest h = absurd (not-suc-le-zero h)
word-sent zero a b (w ∷ ws) rest h = record { a = a; b = b; is = first-word a b w ws rest }
word-sent (suc k) a b (w ∷ ws) rest h =
    let s = sent a b (bits 24 w) in
    let later = word-sent k (nth s 29) (nth s 30) ws rest (le_of_suc-le-suc h) in
    record {
      a = later.a;
      b = later.b;
      is = sym (word-later k (a ∷ b ∷ (sent_from a b (w ∷ ws) ++ rest))) ∙ ap (word_at k) (later-words a b w ws rest) ∙ later.is;
    }

-- the stream from the two carried bits on
abbrev pub onward : Bool → Bool → List ℕ → List Bool → List Bool
onward a b ws rest = a ∷ b ∷ (sent_from a b ws ++ rest)

module _ (a b : Bool) (ws : List ℕ) (rest : List Bool) where
  long : length (onward a b ws rest) ≡ 2 + 30 * length ws + length rest
  long = omega (arith, length-append (sent_from a b ws) rest, length-sent_from a b ws)

  data-at : (k : ℕ) → k < length ws → data_of (word_at k (onward a b ws rest)) ≡ bits 24 (get_or ws k 0)
  data-at k h =
      let s = word-sent k a b ws rest h in
      ap data_of s.is ∙ data-sent s.a s.b (bits 24 (get_or ws k 0)) (length-bits 24 (get_or ws k 0))

  passes_at_lem : (k : ℕ) → k < length ws → passes (word_at k (onward a b ws rest)) ≡ true
  passes_at_lem k h =
      let s = word-sent k a b ws rest h in
      ap passes s.is ∙ passes-sent s.a s.b (bits 24 (get_or ws k 0)) (length-bits 24 (get_or ws k 0))

  -- the data of the words there are the words
  data-are : Below ws → (n k : ℕ) → n + k ≡ length ws → data_from n k (onward a b ws rest) ≡ drop k ws
  unfolding data_from
  data-are below zero k e = sym (drop_of_length-le ws {i = k} (omega arith))
  data-are below (suc n) k e =
      ap₂ ◌∷◌ here (data-are below n (suc k) (omega (arith, suc-add n k, add-suc n k))) ∙ sym (drop-cons ws k 0 inside)
    where
      inside : k < length ws
      inside = omega (arith, suc-add n k)

      here : number (data_of (word_at k (onward a b ws rest))) ≡ get_or ws k 0
      here = ap number (data-at k inside) ∙ number-bits 24 (get_or ws k 0) ∙ mod-eq_of_lt (below_at k ws below)

-- ---- WORDS OF A FRAME, sent after any two bits, stand, and are the frame of those words

module _ (first second : ℕ) (vs : List ℕ) (p : preambled (bits 24 first) ≡ true) (e : n_of (bits 24 second) ≡ length vs) (a b : Bool) (rest : List Bool) where
  abbrev ws : List ℕ
  ws = first ∷ second ∷ vs

  abbrev d : List Bool
  d = onward a b ws rest

  n-sent : n_at d ≡ length vs
  unfolding n_at
  n-sent = ap n_of (data-at a b ws rest 1 (omega arith)) ∙ e

  right-at : (k : ℕ) → k < length ws → right k (word_at k d) ≡ true
  unfolding right
  right-at zero h = rw (data-at a b ws rest 0 h, p) (passes_at_lem a b ws rest 0 h)
  right-at (suc k) h = passes_at_lem a b ws rest (suc k) h

  pub stands-sent : Stands d
  stands-sent = record {
    taken = omega (arith, n-sent, long a b ws rest);
    each = λ k h. right-at k (omega (arith, n-sent));
  }

  pub frame-sent : Below ws → frame_at d ≡ after_pair (pair_before d) (frame_of ws)
  unfolding frame_at frame_of
  frame-sent below =
      ap₂ (λ x y. after_pair (pair_before d) (framed (header_of x y) (data_from (n_at d) 2 d)))
      (data-at a b ws rest 0 (omega arith)) (data-at a b ws rest 1 (omega arith))
      ∙ ap (λ vs. after_pair (pair_before d) (framed (header_of (bits 24 first) (bits 24 second)) vs))
      (ap (λ n. data_from n 2 d) n-sent ∙ data-are a b ws rest below (length vs) 2 (omega arith))

-- ---- WHAT IS WRITTEN STANDS, AND IS THAT FRAME: after any two carried bits, whatever follows

module _ (f : Frame) (o : outside f ≡ false) (full : length f.words ≡ 31) (a b : Bool) (rest : List Bool) where
  first-is : bits 24 (number (first_word f.header)) ≡ first_word f.header
  first-is = bits-number 24 (first_word f.header) (length-first f.header)

  second_is : bits 24 (number (second_word f.header f.n)) ≡ second_word f.header f.n
  second_is = bits-number 24 (second_word f.header f.n) (length-second f.header f.n)

  starts : preambled (bits 24 (number (first_word f.header))) ≡ true
  starts = ap preambled first-is ∙ first-preambled f.header (header-within f o)

  counts : n_of (bits 24 (number (second_word f.header f.n))) ≡ length (data_words f)
  counts = ap n_of second_is ∙ n-words f.header f.n (header-within f o) (n_within f o) ∙ sym (length-data f o full)

  pub written_stands : Stands (a ∷ b ∷ (sent_bits a b f ++ rest))
  unfolding words_of
  written_stands = stands-sent (number (first_word f.header)) (number (second_word f.header f.n)) (data_words f) starts counts a b rest

  pub written_is : frame_at (a ∷ b ∷ (sent_bits a b f ++ rest)) ≡ after_pair (pair_before (a ∷ b ∷ [])) f
  unfolding words_of
  written_is =
      frame-sent (number (first_word f.header)) (number (second_word f.header f.n)) (data_words f) starts counts a b rest (below-words f o)
      ∙ ap (after_pair (pair_before (a ∷ b ∷ []))) (frame-words f o full)
      ∙ after-after (pair_before (a ∷ b ∷ [])) zero_pair f
