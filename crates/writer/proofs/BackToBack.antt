-- Frames back to back after the lead byte: the scan of such a stream finds each at its place, and nothing else. Assumes nothing.
use mathlib.Core.Path.{◌≡◌, refl, sym, ap, ap₂, subst, ◌∙◌}
use mathlib.Core.Bool.{Bool, false}
use mathlib.Core.List.{List, [], ◌∷◌, ◌++◌, append-nil, append_assoc, Memᴰ}
use Prim.Native.Nat.{ℕ, suc, ◌+◌, ◌*◌}
use native.Mathlib.Omega.{arith}
use lib.ListN.{length, drop, replicate, length-append}
use lib.Seq.{drop-drop}
use Rattle.bits.specs.Bits.{bits, number}
use Rattle.bits.proofs.Xor.{one-val}
use Rattle.bits.proofs.Numbers.{bits-number}
use Rattle.word.specs.Word.{nth, d29*, d30*, data_of, turned_by, parity, sent}
use Rattle.word.specs.Answer.{sent_at}
use Rattle.frame.specs.Header.{preambled, first_word, second_word}
use Rattle.frame.specs.Frames.{after_pair, words_of, data_words}
use Rattle.frame.specs.declared.Frame.{Frame}
use Rattle.frame.specs.declared.Header.{Header}
use Rattle.frame.proofs.HeaderLaws.{length-first}
use Rattle.frame.proofs.FrameLaws.{length-words}
use Rattle.stream.specs.Standing.{word_at, Stands, pair_before, frame_at, Placed, placed, scan, frames_in}
use Rattle.stream.specs.Places.{StandsIn}
use Rattle.stream.proofs.Words.{unlike, frame-n, right-first}
use Rattle.stream.proofs.Scanning.{scan-miss, scan-hit, scan-short, only}
use Rattle.writer.specs.Sending.{sent_from, sent_bits, bits_after, carried_on, bytes_for, sent_after, bytes_after, pair_after}
use Rattle.writer.specs.Streams.{Writable, AllWritable, all_words, stream_bits, places_from, stream_places}
use Rattle.writer.proofs.Bytes.{bytes-append}
use Rattle.writer.proofs.Carrying.{length-sent_at, length-sent_after, sent-next, carries-29, carries-30, carried-bits}
use Rattle.writer.proofs.Standing.{onward, later-words, written_stands, written_is}

-- ---- words after words

pub sent-words : (c : ℕ) (ws vs : List ℕ) → sent_after c (ws ++ vs) ≡ sent_after c ws ++ sent_after (pair_after c ws) vs
unfolding sent_from
sent-words c [] vs = refl
sent-words c (w ∷ ws) vs =
    sent-next c w (ws ++ vs)
    ∙ ap (λ bs. sent_at c w ++ bs) (sent-words (pair_after c (w ∷ [])) ws vs)
    ∙ sym (append_assoc (sent_at c w) (sent_after (pair_after c (w ∷ [])) ws) (sent_after (pair_after c (w ∷ ws)) vs))
    ∙ ap (λ bs. bs ++ sent_after (pair_after c (w ∷ ws)) vs) (sym (sent-next c w ws))

pub bytes-words : (c : ℕ) (ws vs : List ℕ) → bytes_after c (ws ++ vs) ≡ bytes_after c ws ++ bytes_after (pair_after c ws) vs
bytes-words c ws vs =
    ap₂ bytes_for many (sent-words c ws vs)
    ∙ bytes-append (5 * length ws) (5 * length vs) (sent_after c ws) (sent_after (pair_after c ws) vs)
    (omega (arith, length-sent_after c ws))
  where
    many : 5 * length (ws ++ vs) ≡ 5 * length ws + 5 * length vs
    many = omega (arith, length-append ws vs)

-- the stream from a pair on
abbrev from : ℕ → List ℕ → List Bool → List Bool
from c ws rest = onward (d29* (bits 2 c)) (d30* (bits 2 c)) ws rest

word_after : (c w : ℕ) (ws : List ℕ) (rest : List Bool) → drop 30 (from c (w ∷ ws) rest) ≡ from (pair_after c (w ∷ [])) ws rest
word_after c w ws rest =
    later-words (d29* (bits 2 c)) (d30* (bits 2 c)) w ws rest
    ∙ ap₂ (λ a b. onward a b ws rest)
    (sym (carries-29 (sent_at c w) (length-sent_at c w)))
    (sym (carries-30 (sent_at c w) (length-sent_at c w)))

words-after : (c : ℕ) (ws vs : List ℕ) (rest : List Bool) → drop (30 * length ws) (from c (ws ++ vs) rest) ≡ from (pair_after c ws) vs rest
words-after c [] vs rest = refl
words-after c (w ∷ ws) vs rest =
    ap (λ n. drop n (from c (w ∷ (ws ++ vs)) rest)) many
    ∙ sym (drop-drop (30 * length ws) 30 (from c (w ∷ (ws ++ vs)) rest))
    ∙ ap (drop (30 * length ws)) (word_after c w (ws ++ vs) rest)
    ∙ words-after (pair_after c (w ∷ [])) ws vs rest
  where
    many : 30 * suc (length ws) ≡ 30 + 30 * length ws
    many = omega arith

-- ---- a frame, then the others

module _ (c : ℕ) (f : Frame) (g : Writable f) (vs : List ℕ) (rest : List Bool) where
  d : List Bool
  d = from c (words_of f ++ vs) rest

  -- what follows the frame
  after : List Bool
  after = sent_after (pair_after c (words_of f)) vs ++ rest

  split : d ≡ d29* (bits 2 c) ∷ d30* (bits 2 c) ∷ (sent_bits (d29* (bits 2 c)) (d30* (bits 2 c)) f ++ after)
  unfolding d after
  split =
      ap (λ bs. d29* (bits 2 c) ∷ d30* (bits 2 c) ∷ bs)
      (ap (λ bs. bs ++ rest) (sent-words c (words_of f) vs) ∙ append_assoc (sent_after c (words_of f)) (sent_after (pair_after c (words_of f)) vs) rest)

  frame-first : Stands d
  frame-first = subst Stands (sym split) (written_stands f g.within g.full (d29* (bits 2 c)) (d30* (bits 2 c)) after)

  frame_is : frame_at d ≡ after_pair (pair_before (bits 2 c)) f
  frame_is = ap frame_at split ∙ written_is f g.within g.full (d29* (bits 2 c)) (d30* (bits 2 c)) after

  scan-frame : (p : ℕ) → scan 0 p (from c (words_of f ++ vs) rest)
      ≡ record { at = p; frame = after_pair (pair_before (bits 2 c)) f } ∷ scan 0 (p + 30 * (2 + f.n)) (from (pair_after c (words_of f)) vs rest)
  unfolding d placed after_pair
  scan-frame p =
      scan-hit p d frame-first
      ∙ ap₂ (λ h n. record { at = p; frame = h } ∷ scan 0 (p + 30 * (2 + n)) (drop (30 * (2 + n)) d)) frame_is (sym (frame-n d) ∙ ap (λ h. h.n) frame_is)
      ∙ ap (λ bs. record { at = p; frame = after_pair (pair_before (bits 2 c)) f } ∷ scan 0 (p + 30 * (2 + f.n)) bs)
      (ap (λ n. drop (30 * n) d) (sym (length-words f g.within g.full)) ∙ words-after c (words_of f) vs rest)

-- the pair that the frame carries on
pair-on : (c : ℕ) (f : Frame) → pair_before (bits 2 (pair_after c (words_of f))) ≡ carried_on (bits_after (pair_before (bits 2 c)) f)
unfolding words_of
pair-on c f =
    sym (carried-bits c _ _)
    ∙ ap₂ (λ a b. carried_on (sent_bits a b f)) (sym (one-val (d29* (bits 2 c)))) (sym (one-val (d30* (bits 2 c))))

-- the scan from the two carried bits on
scan-frames : (fs : List Frame) → AllWritable fs → (c p : ℕ) → scan 0 p (from c (all_words fs) []) ≡ places_from p (pair_before (bits 2 c)) fs
unfolding sent_from
scan-frames [] g c p = scan-short p (from c [] []) (omega arith)
scan-frames (f ∷ fs) g c p =
    scan-frame c f g.0 (all_words fs) [] p
    ∙ ap (λ l. record { at = p; frame = after_pair (pair_before (bits 2 c)) f } ∷ l)
    (scan-frames fs g.1 (pair_after c (words_of f)) (p + 30 * (2 + f.n)) ∙ ap (λ k. places_from (p + 30 * (2 + f.n)) k fs) (pair-on c f))

-- ---- the lead byte: with its zeros in front no preamble stands at positions 2 to 5

-- k zero bits and two more, before word 1 of a frame
abbrev zeros_before : ℕ → List Bool → List Bool → List Bool
zeros_before k ds rest = replicate (2 + k) false ++ (sent false false ds ++ rest)

no-preamble : (h : Header) (rest : List Bool)
    → (preambled (data_of (word_at 0 (zeros_before 1 (first_word h) rest))) ≡ false)
    × ((preambled (data_of (word_at 0 (zeros_before 2 (first_word h) rest))) ≡ false)
    × ((preambled (data_of (word_at 0 (zeros_before 3 (first_word h) rest))) ≡ false)
    × (preambled (data_of (word_at 0 (zeros_before 4 (first_word h) rest))) ≡ false)))
unfolding first_word bits number preambled data_of sent turned_by parity
no-preamble h rest = (refl, (refl, (refl, refl)))

nothing : (d : List Bool) → preambled (data_of (word_at 0 d)) ≡ false → Stands d → ⊥
nothing d e s = unlike (preambled (data_of (word_at 0 d))) (right-first (word_at 0 d) (s.each 0 (omega arith))) e

lead-scan : (h : Header) (rest : List Bool) → scan 0 2 (zeros_before 4 (first_word h) rest) ≡ scan 0 6 (zeros_before 0 (first_word h) rest)
lead-scan h rest =
    let none = no-preamble h rest in
    scan-miss 2 false (zeros_before 3 (first_word h) rest) (nothing (zeros_before 4 (first_word h) rest) none.1.1.1)
    ∙ scan-miss 3 false (zeros_before 2 (first_word h) rest) (nothing (zeros_before 3 (first_word h) rest) none.1.1.0)
    ∙ scan-miss 4 false (zeros_before 1 (first_word h) rest) (nothing (zeros_before 2 (first_word h) rest) none.1.0)
    ∙ scan-miss 5 false (zeros_before 0 (first_word h) rest) (nothing (zeros_before 1 (first_word h) rest) none.0)

-- ---- A STREAM OF THE LEAD BYTE AND FRAMES BACK TO BACK has each of them at its place, and no other frame

pub stream-frames : (fs : List Frame) → AllWritable fs → frames_in (stream_bits fs) ≡ stream_places fs
unfolding sent_from words_of bits
stream-frames [] g = scan-short 2 (stream_bits []) (omega arith)
stream-frames (f ∷ fs) g =
    ap (λ bs. scan 0 2 (replicate 6 false ++ bs)) starts
    ∙ lead-scan f.header rest
    ∙ ap (λ bs. scan 0 6 (false ∷ false ∷ bs)) (sym starts ∙ sym (append-nil (sent_from false false (all_words (f ∷ fs)))))
    ∙ scan-frames (f ∷ fs) g 0 6
  where
    first : List Bool
    first = bits 24 (number (first_word f.header))

    rest : List Bool
    rest = sent_from (nth (sent false false first) 29) (nth (sent false false first) 30) (number (second_word f.header f.n) ∷ (data_words f ++ all_words fs))

    starts : sent_from false false (all_words (f ∷ fs)) ≡ sent false false (first_word f.header) ++ rest
    starts = ap (λ ds. sent false false ds ++ rest) (bits-number 24 (first_word f.header) (length-first f.header))

-- each of them stands there
pub each_stands : (fs : List Frame) → AllWritable fs → (h : Placed) → Memᴰ h (stream_places fs) → StandsIn 2 (stream_bits fs) h
each_stands fs g h m = only 0 2 (stream_bits fs) h (subst (Memᴰ h) (sym (stream-frames fs g)) m)
