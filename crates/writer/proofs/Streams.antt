-- What a caller leaves in one buffer who opens a stream and writes frames back to back. Assumes nothing.
use mathlib.Core.Path.{◌≡◌, refl, sym, ap, ap₂, subst, ◌∙◌}
use mathlib.Core.Bool.{false}
use mathlib.Core.List.{List, [], ◌∷◌, ◌++◌}
use Prim.Native.Nat.{ℕ, suc, ◌+◌, ◌*◌, ◌/◌, ◌%◌, ◌≤◌, ◌<◌}
use native.Mathlib.Omega.{arith}
use lib.ListN.{length, take, drop, replicate, length-append, length-drop}
use borrow.Author.Tests.{le-ltb}
use Rattle.answer.specs.Order.{NoneApplies}
use Rattle.bits.specs.Bits.{bits}
use Rattle.line.specs.Line.{six, line_bits}
use Rattle.frame.specs.Frames.{zero_pair, words_of}
use Rattle.frame.specs.declared.Frame.{Frame}
use Rattle.frame.proofs.FrameLaws.{length-words}
use Rattle.stream.specs.Standing.{frames_in}
use Rattle.stream.specs.Places.{StandsIn}
use Rattle.writer.specs.Sending.{bits_after, carried_on, bytes_for, line_length, sent_after, bytes_after, pair_after}
use Rattle.writer.specs.Answer.{over, lead, write_checks, written_to}
use Rattle.writer.specs.Streams.{Writable, AllWritable, all_words, stream_bits, stream_bytes, behind, written_all, stream_to, StreamWritten}
use Rattle.frame.specs.declared.Carried.{Carried}
use Rattle.writer.proofs.Bytes.{length-bytes, line-bytes, over-append, take-over, drop-over}
use Rattle.writer.proofs.Carrying.{length-sent_after, pair_lt, carried-pair}
use Rattle.writer.proofs.Answers.{write-answers, bits-after}
use Rattle.writer.proofs.Wrote.{wrote-front, wrote-back}
use Rattle.writer.proofs.BackToBack.{bytes-words, stream-frames, each_stands}

-- ---- one frame, then the others

abbrev pair_of : Carried → ℕ
pair_of c = c.d29 * 2 + c.d30

-- the pair that a frame carries on
on : Carried → Frame → Carried
on c f = carried_on (bits_after c f)

carries : (c : ℕ) (f : Frame) → carried_on (sent_after c (words_of f)) ≡ record { d29 = pair_after c (words_of f) / 2; d30 = pair_after c (words_of f) % 2 }
unfolding words_of
carries c f = carried-pair c _ _

module _ (c : Carried) (p : c.d29 ≤ 1) (q : c.d30 ≤ 1) (f : Frame) (g : Writable f) (l : List ℕ) (room : 5 * length (words_of f) ≤ length l) where
  five : line_length f ≡ 5 * length (words_of f)
  five = omega (arith, length-words f g.within g.full)

  none : NoneApplies (write_checks f c l)
  none = (
    le-ltb 1 c.d29 p,
    (le-ltb 1 c.d30 q, (g.within, (g.in-time, (le-ltb (length l) (line_length f) (omega (arith, five)), tt)))),
  )

  on-is : on c f ≡ record { d29 = pair_after (pair_of c) (words_of f) / 2; d30 = pair_after (pair_of c) (words_of f) % 2 }
  unfolding on
  on-is = ap carried_on (bits-after c f p q) ∙ carries (pair_of c) f

  small : pair_after (pair_of c) (words_of f) < 4
  small = pair_lt (pair_of c) (words_of f) (omega arith)

  on-29 : (on c f).d29 ≤ 1
  on-29 = rw on-is (omega (arith, small))

  on-30 : (on c f).d30 ≤ 1
  on-30 = rw on-is (omega (arith, small))

  on-pair : pair_of (on c f) ≡ pair_after (pair_of c) (words_of f)
  on-pair = rw on-is (omega (arith, small))

  -- the next frame goes behind this one
  next : (fs : List Frame) → written_all (f ∷ fs) c l ≡ bytes_after (pair_of c) (words_of f) ++ written_all fs (on c f) (drop (5 * length (words_of f)) l)
  unfolding on
  next fs =
      ap (λ r. behind r (written_to f c l) (written_all fs)) (sym (write-answers f c l none).0)
      ∙ ap₂ (λ a b. a ++ written_all fs (on c f) b) (wrote-front f g.full c l none) (wrote-back f g.full c l none)
      ∙ ap₂ (λ n bs. bytes_for n bs ++ written_all fs (on c f) (drop n l)) five (bits-after c f p q)

pub all-written : (fs : List Frame) → AllWritable fs → (c : Carried) → c.d29 ≤ 1 → c.d30 ≤ 1 → (l : List ℕ) → 5 * length (all_words fs) ≤ length l
    → written_all fs c l ≡ over (bytes_after (pair_of c) (all_words fs)) l
unfolding bytes_for
all-written [] g c p q l room = refl
all-written (f ∷ fs) g c p q l room =
    next c p q f g.0 l front fs
    ∙ ap (λ r. bytes_after (pair_of c) (words_of f) ++ r)
    (all-written fs g.1 (on c f) (on-29 c p q f g.0 l front) (on-30 c p q f g.0 l front) (drop (5 * length (words_of f)) l)
    (omega (arith, length-append (words_of f) (all_words fs), length-drop (5 * length (words_of f)) l))
    ∙ ap₂ (λ k n. over (bytes_after k (all_words fs)) (drop n l)) (on-pair c p q f g.0 l front)
    (sym (length-bytes (5 * length (words_of f)) (sent_after (pair_of c) (words_of f)))))
    ∙ sym (over-append (bytes_after (pair_of c) (words_of f)) (bytes_after (pair_after (pair_of c) (words_of f)) (all_words fs)) l)
    ∙ ap (λ bs. over bs l) (sym (bytes-words (pair_of c) (words_of f) (all_words fs)))
  where
    front : 5 * length (words_of f) ≤ length l
    front = omega (arith, length-append (words_of f) (all_words fs))

-- ---- THE WHOLE STREAM

pub stream-bytes : (fs : List Frame) → AllWritable fs → (l : List ℕ) → stream_bytes fs ≤ length l → stream_to fs l ≡ over (lead ∷ bytes_after 0 (all_words fs)) l
stream-bytes fs g [] room = absurd (omega arith)
stream-bytes fs g (x ∷ l) room =
    rw (le-ltb (suc (length l)) 1 (omega arith))
    (ap (λ r. lead ∷ r) (all-written fs g zero_pair (omega arith) (omega arith) l (omega arith)))

module _ (fs : List Frame) (g : AllWritable fs) (l : List ℕ) (room : stream_bytes fs ≤ length l) where
  counted : length (lead ∷ bytes_after 0 (all_words fs)) ≡ stream_bytes fs
  counted = omega (arith, length-bytes (5 * length (all_words fs)) (sent_after 0 (all_words fs)))

  stream-line : line_bits (take (stream_bytes fs) (stream_to fs l)) ≡ stream_bits fs
  unfolding line_bits six bits
  stream-line =
      ap (λ bs. line_bits (take (stream_bytes fs) bs)) (stream-bytes fs g l room)
      ∙ ap line_bits (take-over (lead ∷ bytes_after 0 (all_words fs)) l (stream_bytes fs) counted)
      ∙ ap (λ bs. replicate 6 false ++ bs)
      (line-bytes (5 * length (all_words fs)) (sent_after 0 (all_words fs)) (omega (arith, length-sent_after 0 (all_words fs))))

  -- EACH FRAME AT ITS PLACE, and no other
  pub stream-written : StreamWritten fs l
  stream-written = record {
    bits = stream-line;
    each = λ h m. subst (λ bs. StandsIn 2 bs h) (sym stream-line) (each_stands fs g h m);
    places = ap frames_in stream-line ∙ stream-frames fs g;
    kept = ap (drop (stream_bytes fs)) (stream-bytes fs g l room) ∙ drop-over (lead ∷ bytes_after 0 (all_words fs)) l (stream_bytes fs) counted;
  }
