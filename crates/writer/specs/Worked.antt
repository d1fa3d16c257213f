-- The worked stream of RULES 12, byte for byte: what the calls leave in a buffer. Assumes nothing.
use Rattle.std.specs.Prelude.{◌≡◌, [], ◌∷◌, replicate}
use Rattle.frame.specs.Frames.{zero_pair, built_of}
use Rattle.frame.specs.declared.Frame.{Frame}
use Rattle.frame.specs.declared.State.TheVariants.{Factor}
use Rattle.writer.specs.Answer.{opened_by, opened_to, written_by, written_to}
use Rattle.writer.specs.Streams.{stream_to}
use Rattle.frame.specs.declared.Carried.{Carried}
use Rattle.writer.specs.declared.Opened.TheVariants as opened
use Rattle.writer.specs.declared.Written.TheVariants as written

-- type 6, station 5, Z count 100, sequence 3, health 0
abbrev pub worked_frame : Frame
worked_frame = built_of (record { kind = 6; station = 5; z = 100; sequence = 3; state = Factor 100 }) 0 (replicate 31 0)

abbrev pub one_pair : Carried
one_pair = record { d29 = 1; d30 = 1 }

pub record WorkedStream : Type 0 where
  -- the lead byte alone; it needs one byte
  pub opened-to : opened_to (9 ∷ 9 ∷ []) ≡ 0x40 ∷ 9 ∷ []
  pub opened-short : opened_by [] ≡ opened.Refused 13
  -- the frame after two zero bits: ten bytes, which end in two zero bits; a byte past them is as it was
  pub answer : written_by worked_frame zero_pair (replicate 11 9) ≡ written.Done 10 zero_pair
  pub bytes : written_to worked_frame zero_pair (replicate 11 9) ≡ 0x66 ∷ 0x61 ∷ 0x41 ∷ 0x68 ∷ 0x7F ∷ 0x7F ∷ 0x6C ∷ 0x73 ∷ 0x7F ∷ 0x44 ∷ 9 ∷ []
  pub short : written_by worked_frame zero_pair (replicate 9 9) ≡ written.Refused 13
  -- after two one bits: the bytes turned over, which end in two one bits
  pub turned-answer : written_by worked_frame one_pair (replicate 10 9) ≡ written.Done 10 one_pair
  pub turned : written_to worked_frame one_pair (replicate 10 9) ≡ 0x59 ∷ 0x5E ∷ 0x7E ∷ 0x57 ∷ 0x40 ∷ 0x40 ∷ 0x53 ∷ 0x4C ∷ 0x40 ∷ 0x7B ∷ []
  -- opened, and the frame behind the lead byte
  pub stream : stream_to (worked_frame ∷ []) (replicate 11 9) ≡ 0x40 ∷ 0x66 ∷ 0x61 ∷ 0x41 ∷ 0x68 ∷ 0x7F ∷ 0x7F ∷ 0x6C ∷ 0x73 ∷ 0x7F ∷ 0x44 ∷ []
