-- What is promised of one frame: written after any carried bits, and written back after its own. Assumes nothing.
use Rattle.std.specs.Prelude.{◌≡◌, Bool, List, ◌∷◌, ◌++◌, ℕ, ◌*◌, take, drop}
use Rattle.bits.specs.Bits.{is_nonzero}
use Rattle.answer.specs.Order.{answers}
use Rattle.line.specs.Line.{line_bits}
use Rattle.frame.specs.Frames.{after_pair}
use Rattle.frame.specs.declared.Frame.{Frame}
use Rattle.stream.specs.Standing.{size, Stands, pair_before, frame_at}
use Rattle.writer.specs.Sending.{carried_on, line_length}
use Rattle.writer.specs.Answer.{written_by, written_to, says_written}
use Rattle.frame.specs.declared.Carried.{Carried}

-- the stream from two carried bits on: the bits of bytes, and whatever follows
abbrev pub line_after : Carried → List ℕ → List Bool → List Bool
line_after c bytes rest = is_nonzero c.d29 ∷ is_nonzero c.d30 ∷ (line_bits bytes ++ rest)

-- WRITTEN: k bytes at the front of the buffer, after the carried pair c; c' is the pair carried on
pub record Wrote (f : Frame) (c : Carried) (buffer : List ℕ) (k : ℕ) (c' : Carried) : Type 0 where
  pub count : k ≡ line_length f
  -- whatever follows, they stand after the two carried bits, and are that frame after these
  pub stands : (rest : List Bool) → Stands (line_after c (take k (written_to f c buffer)) rest)
  pub is : (rest : List Bool) → frame_at (line_after c (take k (written_to f c buffer)) rest) ≡ after_pair c f
  -- their last two bits are carried on
  pub last : c' ≡ carried_on (line_bits (take k (written_to f c buffer)))
  -- the rest of the buffer is as it was
  pub kept : drop k (written_to f c buffer) ≡ drop k buffer

-- ---- a frame that stands: d is the stream from two bits before it

-- its own bits
abbrev pub its_bits : List Bool → List Bool
its_bits d = take (30 * size d) (drop 2 d)

-- WRITTEN BACK: after its own two bits it gives its own bits, and carries their last two on
pub record WritesBack (d : List Bool) (buffer : List ℕ) : Type 0 where
  pub answer : says_written (written_by (frame_at d) (pair_before d) buffer) ≡ answers (5 * size d, carried_on (its_bits d))
  pub bits : line_bits (take (5 * size d) (written_to (frame_at d) (pair_before d) buffer)) ≡ its_bits d
