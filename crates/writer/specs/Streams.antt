-- A stream of frames back to back after the lead byte: its bits, the place of each frame, and the calls that write it. Assumes nothing.
use Rattle.std.specs.Prelude.{◌≡◌, Bool, false, ℕ, ◌+◌, ◌*◌, length, take, drop, replicate}
use mathlib.Core.List.{List, [], ◌∷◌, ◌++◌, Memᴰ}
use Rattle.line.specs.Line.{line_bits}
use Rattle.frame.specs.Frames.{zero_pair, after_pair, words_of}
use Rattle.frame.specs.Widths.{outside, late}
use Rattle.frame.specs.declared.Frame.{Frame}
use Rattle.stream.specs.Standing.{Placed, frames_in}
use Rattle.stream.specs.Places.{StandsIn}
use Rattle.writer.specs.Sending.{sent_from, bits_after, carried_on}
use Rattle.writer.specs.Answer.{opened_to, written_by, written_to}
use Rattle.frame.specs.declared.Carried.{Carried}
use Rattle.writer.specs.declared.Written.{Written}
use Rattle.writer.specs.declared.Written.TheVariants.{Done, Refused}

-- a value of the type Frame that is not refused
pub record Writable (f : Frame) : Type 0 where
  pub full : length f.words ≡ 31
  pub within : outside f ≡ false
  pub in-time : late f.header.z ≡ false

abbrev pub AllWritable : List Frame → Type 0
AllWritable [] = Unit {0}
AllWritable (f ∷ fs) = Writable f × AllWritable fs

-- their words, one frame after the other
abbrev pub all_words : List Frame → List ℕ
all_words [] = []
all_words (f ∷ fs) = words_of f ++ all_words fs

-- THE BITS OF A STREAM: six zero bits, then the words, each carrying its last two bits on
abbrev pub stream_bits : List Frame → List Bool
stream_bits fs = replicate 6 false ++ sent_from false false (all_words fs)

-- a lead byte, and five bytes a word
abbrev pub stream_bytes : List Frame → ℕ
stream_bytes fs = 1 + 5 * length (all_words fs)

-- THE PLACES: each frame begins where the one before it ends, after the pair that it carries on; the first at p, after c
abbrev pub places_from : ℕ → Carried → List Frame → List Placed
places_from p c [] = []
places_from p c (f ∷ fs) = record { at = p; frame = after_pair c f } ∷ places_from (p + 30 * (2 + f.n)) (carried_on (bits_after c f)) fs

-- those of a stream: the lead byte ends in two zero bits
abbrev pub stream_places : List Frame → List Placed
stream_places fs = places_from 6 zero_pair fs

-- ---- the calls: a caller writes each frame behind the bytes of the one before, with the pair that it carried on, and stops when refused
abbrev pub behind : Written → List ℕ → (Carried → List ℕ → List ℕ) → List ℕ
behind (Done bytes carried) buffer next = take bytes buffer ++ next carried (drop bytes buffer)
behind (Refused n) buffer next = buffer

abbrev pub written_all : List Frame → Carried → List ℕ → List ℕ
written_all [] c buffer = buffer
written_all (f ∷ fs) c buffer = behind (written_by f c buffer) (written_to f c buffer) (written_all fs)

-- opened first
abbrev pub stream_to : List Frame → List ℕ → List ℕ
stream_to fs buffer = take 1 (opened_to buffer) ++ written_all fs zero_pair (drop 1 (opened_to buffer))

-- WHAT IS PROMISED of such a stream
pub record StreamWritten (fs : List Frame) (buffer : List ℕ) : Type 0 where
  pub bits : line_bits (take (stream_bytes fs) (stream_to fs buffer)) ≡ stream_bits fs
  -- each frame stands at its place, and no other frame is found
  pub each : (h : Placed) → Memᴰ h (stream_places fs) → StandsIn 2 (line_bits (take (stream_bytes fs) (stream_to fs buffer))) h
  pub places : frames_in (line_bits (take (stream_bytes fs) (stream_to fs buffer))) ≡ stream_places fs
  -- the rest of the buffer is as it was
  pub kept : drop (stream_bytes fs) (stream_to fs buffer) ≡ drop (stream_bytes fs) buffer
