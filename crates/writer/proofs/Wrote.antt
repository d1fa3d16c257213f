-- What the bytes of a frame that was written carry, of the definitions that the contract of `write` cites. Assumes nothing.
use mathlib.Core.Path.{◌≡◌, sym, ap, ap₂, subst, ◌∙◌}
use mathlib.Core.Bool.{Bool, false, not}
use mathlib.Core.List.{List, [], ◌∷◌, ◌++◌, map}
use Prim.Native.Nat.{ℕ, ◌*◌, ◌≤◌}
use native.Mathlib.Omega.{arith}
use lib.ListN.{length, take, drop}
use lib.Dec.{ltb}
use borrow.Author.Tests.{le-ltb, ltb-false}
use Rattle.answer.specs.Order.{answers, NoneApplies}
use Rattle.bits.specs.Bits.{val, is_nonzero}
use Rattle.bits.proofs.Xor.{one-val, val-one, val-lt}
use Rattle.line.specs.Line.{line_bits}
use Rattle.word.specs.Word.{d29*, d30*}
use Rattle.frame.specs.Frames.{after_pair, turned_frame, words_of}
use Rattle.frame.specs.Widths.{pair_outside, outside, late}
use Rattle.frame.specs.declared.Frame.{Frame}
use Rattle.frame.proofs.FrameLaws.{length-words, after-inside}
use Rattle.stream.specs.Standing.{size, Stands, pair_before, frame_at}
use Rattle.stream.proofs.Words.{frame-n}
use Rattle.stream.proofs.Stand.{stands-long}
use Rattle.stream.proofs.Turning.{stands-turned, n-turned, frame-turned}
use Rattle.stream.proofs.Data.{frame-within, frame-full}
use Rattle.writer.specs.Sending.{sent_bits, bits_after, carried_on, bytes_for, line_length}
use Rattle.writer.specs.Answer.{write_checks, written_by, written_to, says_written}
use Rattle.writer.specs.OneFrame.{line_after, Wrote, its_bits, WritesBack}
use Rattle.frame.specs.declared.Carried.{Carried}
use Rattle.writer.specs.declared.Written.TheVariants.{Done}
use Rattle.writer.proofs.Bytes.{length-bytes, line-bytes, take-over, drop-over}
use Rattle.writer.proofs.Carrying.{length-sent_from}
use Rattle.writer.proofs.Answers.{write-answers, write-none}
use Rattle.writer.proofs.Standing.{written_stands, written_is}
use Rattle.writer.proofs.Rewriting.{rewritten, bits-turned}

-- ---- the bytes, where no check applies

module _ (f : Frame) (full : length f.words ≡ 31) (c : Carried) (l : List ℕ) (none : NoneApplies (write_checks f c l)) where
  pub wrote-front : take (line_length f) (written_to f c l) ≡ bytes_for (line_length f) (bits_after c f)
  wrote-front =
      ap (take (line_length f)) (sym (write-answers f c l none).1)
      ∙ take-over (bytes_for (line_length f) (bits_after c f)) l (line_length f) (length-bytes (line_length f) (bits_after c f))

  pub wrote-back : drop (line_length f) (written_to f c l) ≡ drop (line_length f) l
  wrote-back =
      ap (drop (line_length f)) (sym (write-answers f c l none).1)
      ∙ drop-over (bytes_for (line_length f) (bits_after c f)) l (line_length f) (length-bytes (line_length f) (bits_after c f))

  pub wrote-bits : line_bits (take (line_length f) (written_to f c l)) ≡ bits_after c f
  wrote-bits = ap line_bits wrote-front ∙ line-bytes (line_length f) (bits_after c f) (omega (arith, long, length-words f none.1.1.0 full))
    where
      long : length (bits_after c f) ≡ 30 * length (words_of f)
      long = length-sent_from (is_nonzero c.d29) (is_nonzero c.d30) (words_of f)

-- ---- WHAT `write` WRITES STANDS AND IS THAT FRAME

pub wrote : (f : Frame) → length f.words ≡ 31 → (c : Carried) (l : List ℕ) (k : ℕ) (c' : Carried)
    → written_by f c l ≡ Done k c' → Wrote f c l k c'
wrote f full c l k c' e = record {
  count = count;
  stands = λ rest. subst Stands (sym (line rest)) (written_stands f none.1.1.0 full (is_nonzero c.d29) (is_nonzero c.d30) rest);
  is = λ rest.
      ap frame_at (line rest)
      ∙ written_is f none.1.1.0 full (is_nonzero c.d29) (is_nonzero c.d30) rest
      ∙ ap (λ p. after_pair p f) own;
  last = last ∙ ap carried_on (sym bits);
  kept = ap (λ n. drop n (written_to f c l)) count ∙ wrote-back f full c l none ∙ ap (λ n. drop n l) (sym count);
}
  where
    none : NoneApplies (write_checks f c l)
    none = write-none f c l e

    same : Done k c' ≡ Done (line_length f) (carried_on (bits_after c f))
    same = sym e ∙ sym (write-answers f c l none).0

    count : k ≡ line_length f
    count = cc same

    last : c' ≡ carried_on (bits_after c f)
    last = cc same

    bits : line_bits (take k (written_to f c l)) ≡ bits_after c f
    bits = ap (λ n. line_bits (take n (written_to f c l))) count ∙ wrote-bits f full c l none

    -- each of the two is 0 or 1
    own : pair_before (is_nonzero c.d29 ∷ is_nonzero c.d30 ∷ []) ≡ c
    own =
        ap₂ (λ a b. record { d29 = a; d30 = b })
        (val-one c.d29 (omega (arith, ltb-false 1 c.d29 none.0)))
        (val-one c.d30 (omega (arith, ltb-false 1 c.d30 none.1.0)))

    line : (rest : List Bool) → line_after c (take k (written_to f c l)) rest ≡ is_nonzero c.d29 ∷ is_nonzero c.d30 ∷ (bits_after c f ++ rest)
    line rest = ap (λ bs. is_nonzero c.d29 ∷ is_nonzero c.d30 ∷ (bs ++ rest)) bits

-- ---- A FRAME THAT STANDS, Z BELOW 6000, IS WRITTEN BACK, if the buffer has room for it

pub writes-back : (d : List Bool) → Stands d → late (frame_at d).header.z ≡ false → (l : List ℕ) → 5 * size d ≤ length l → WritesBack d l
writes-back d s z l room = record {
  answer = ap says_written (sym (write-answers (frame_at d) (pair_before d) l none).0) ∙ ap₂ (λ n bs. answers (n, carried_on bs)) many own;
  bits =
      ap (λ n. line_bits (take n (written_to (frame_at d) (pair_before d) l))) (sym many)
      ∙ wrote-bits (frame_at d) (frame-full d) (pair_before d) l none
      ∙ own;
}
  where
    own : bits_after (pair_before d) (frame_at d) ≡ its_bits d
    own = ap₂ (λ a b. sent_bits a b (frame_at d)) (one-val (d29* d)) (one-val (d30* d)) ∙ rewritten d s

    many : line_length (frame_at d) ≡ 5 * size d
    many = omega (arith, frame-n d)

    bit : (b : Bool) → ltb 1 (val b) ≡ false
    bit b = le-ltb 1 (val b) (omega (arith, val-lt b))

    none : NoneApplies (write_checks (frame_at d) (pair_before d) l)
    none = (bit (d29* d), (bit (d30* d), (frame-within d, (z, (le-ltb (length l) (line_length (frame_at d)) (omega (arith, room, many)), tt)))))

-- in the other polarity too: it is the same frame there but for its pair, and its bits are these turned over
pub writes-back-turned : (d : List Bool) → Stands d → late (frame_at d).header.z ≡ false → (l : List ℕ) → 5 * size d ≤ length l
    → WritesBack (map not d) l × ((frame_at (map not d) ≡ turned_frame (frame_at d)) × (its_bits (map not d) ≡ map not (its_bits d)))
unfolding after_pair
writes-back-turned d s z l room = (
  writes-back (map not d) (stands-turned d s) (ap (λ f. late f.header.z) (frame-turned d s) ∙ z) l (omega (arith, n-turned d (stands-long d s))),
  (frame-turned d s, bits-turned d s),
)

-- ---- the frame's own pair is not looked at

module _ (k : Carried) (f : Frame) (p : pair_outside k ≡ false) (o : outside f ≡ false) (c : Carried) (l : List ℕ) where
  same : outside (after_pair k f) ≡ outside f
  same = after-inside k f p o ∙ sym o

  pub unseen-answer : written_by (after_pair k f) c l ≡ written_by f c l
  unfolding words_of after_pair
  unseen-answer = rw same

  pub unseen-bytes : written_to (after_pair k f) c l ≡ written_to f c l
  unfolding words_of after_pair
  unseen-bytes = rw same
