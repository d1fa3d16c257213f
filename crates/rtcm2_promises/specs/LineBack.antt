-- FROM THE LIBRARY TO THE LINE AND BACK: frames written by rtcm2_open and rtcm2_write and read by the calls of LineCalls are handed out, each once and at
-- its place, and no other. Assumes nothing.
use Rattle.std.specs.Prelude.{◌≡◌, true, false, List, [], ◌∷◌, ◌++◌, map, ℕ, ◌≤◌, length, take, drop}
use Rattle.answer.specs.Order.{Says, refuses, answers}
use Rattle.bits.specs.Fields.{AreBytes}
use Rattle.line.specs.Line.{line_bits}
use Rattle.frame.specs.Widths.{late}
use Rattle.frame.specs.declared.Frame.{Frame}
use Rattle.writer.specs.Answer.{opened_to}
use Rattle.writer.specs.Streams.{stream_bytes, stream_places}
use Rattle.frame.specs.declared.Carried.{Carried}
use Rattle.record_fields.specs.Coding.{Each}
use Rattle.rtcm2.specs.Frames.{frame_said}
use Rattle.rtcm2.specs.Send.{write_said, line_lent}
use Rattle.promises.specs.Calls.{reported}
use Rattle.rtcm2_promises.specs.LineCalls.{LineCall, HasRoom, outcome_in}

-- a record and the frame that it is, with a Z count that can be sent
pub record Sends (p : List ℕ × Frame) : Type 0 where
  pub fits : AreBytes p.0
  pub is : frame_said p.0 ≡ answers p.1
  pub in-time : late p.1.header.z ≡ false

-- a caller writes each record behind the bytes of the one before, with the two bits that it left, and stops when refused
abbrev pub behind_in : Says (ℕ × Carried) → List ℕ → (ℕ → ℕ → List ℕ → List ℕ) → List ℕ
behind_in (answers v) line next = take v.0 line ++ next v.1.d29 v.1.d30 (drop v.0 line)
behind_in (refuses n) line next = line

abbrev pub written_in : List (List ℕ) → ℕ → ℕ → List ℕ → List ℕ
written_in [] d29 d30 line = line
written_in (r ∷ rs) d29 d30 line = behind_in (write_said (frame_said r) d29 d30 line) (line_lent (frame_said r) d29 d30 line) (written_in rs)

-- opened first
abbrev pub stream_in : List (List ℕ) → List ℕ → List ℕ
stream_in rs line = take 1 (opened_to line) ++ written_in rs 0 0 (drop 1 (opened_to line))

-- of any calls that took the bits of that stream and ended, once no frame waits
abbrev pub LineGivesBack : List ℕ → Type 0
LineGivesBack state = (sent : List (List ℕ × Frame)) → Each Sends sent → (line : List ℕ) → (cs : List LineCall) → Each HasRoom cs
    → let fs : List Frame = map (λ p. p.1) sent in
    let o = outcome_in state cs in
    stream_bytes fs ≤ length line → o.bits ≡ line_bits (take (stream_bytes fs) (stream_in (map (λ p. p.0) sent) line))
    → o.reader.ended ≡ true → o.reader.candidate.waits ≡ false → o.out ≡ map reported (stream_places fs)
