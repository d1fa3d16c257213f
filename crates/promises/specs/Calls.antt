-- Any list of calls on a reader: what each answers in the table's terms, the bits that the reader takes, the frames that it hands out.
-- Assumes nothing.
use Rattle.std.specs.Prelude.{Bool, List, [], ◌∷◌, ◌++◌, ℕ, ◌%◌, ◌^◌, take, drop, replicate}
use Rattle.answer.specs.Order.{Says, refuses, answers}
use Rattle.line.specs.Line.{six, line_bits}
use Rattle.frame.specs.declared.Frame.{Frame}
use Rattle.stream.specs.Standing.{Placed}
use Rattle.reader.specs.Reading.{started, fed_by, fed_all_by, ended_by, taken_by, carrying, says_next, says_fed_all, says_taken}
use Rattle.reader.specs.declared.Reader.{Reader}

-- feeding a byte, feeding bytes, ending, taking
pub data Call : Type 0 where
  feeds : ℕ → Call
  feeds_all : List ℕ → Call
  ends : Call
  takes : Call

-- what the caller sees of a call beside the reader, a number or the values: of bytes fed, how many were used and passed over; of taking,
-- position and frame
pub data Reply : Type 0 where
  replied : Says (Unit {0}) → Reply
  used : Says (ℕ × ℕ) → Reply
  took : Says (ℕ × Frame) → Reply

unfoldable pub reply_to : Reader → Call → Reply
reply_to r (feeds b) = replied (says_next (fed_by r b))
reply_to r (feeds_all bs) = used (says_fed_all (fed_all_by r bs))
reply_to r ends = replied (says_next (ended_by r))
reply_to r takes = took (says_taken (taken_by r))

unfoldable pub after : Reader → Call → Reader
after r (feeds b) = (fed_by r b).reader
after r (feeds_all bs) = (fed_all_by r bs).reader
after r ends = (ended_by r).reader
after r takes = (taken_by r).reader

-- a reply without its values
abbrev pub answer_of : Reply → Says (Unit {0})
answer_of (replied x) = x
answer_of (used x) = carrying tt x
answer_of (took x) = carrying tt x

-- the bits that a call gave the reader: of a byte its six, of bytes those of the ones used, unless refused
unfoldable pub bits_given : Call → Reply → List Bool
bits_given (feeds b) (replied (answers v)) = six b
bits_given (feeds b) (replied (refuses n)) = []
bits_given (feeds b) (used x) = []
bits_given (feeds b) (took x) = []
bits_given (feeds_all bs) (replied x) = []
bits_given (feeds_all bs) (used (answers v)) = line_bits (take v.0 bs)
bits_given (feeds_all bs) (used (refuses n)) = []
bits_given (feeds_all bs) (took x) = []
bits_given ends y = []
bits_given takes y = []

-- the frame that a call handed out, with the position that it reported
unfoldable pub frame_given : Reply → List (ℕ × Frame)
frame_given (replied x) = []
frame_given (used x) = []
frame_given (took (answers v)) = v ∷ []
frame_given (took (refuses n)) = []

-- ---- call after call

unfoldable pub after_all : Reader → List Call → Reader
after_all r [] = r
after_all r (c ∷ cs) = after_all (after r c) cs

unfoldable pub replies : Reader → List Call → List Reply
replies r [] = []
replies r (c ∷ cs) = reply_to r c ∷ replies (after r c) cs

unfoldable pub bits_taken : Reader → List Call → List Bool
bits_taken r [] = []
bits_taken r (c ∷ cs) = bits_given c (reply_to r c) ++ bits_taken (after r c) cs

unfoldable pub handed_out : Reader → List Call → List (ℕ × Frame)
handed_out r [] = []
handed_out r (c ∷ cs) = frame_given (reply_to r c) ++ handed_out (after r c) cs

-- WHAT CALLS CAME TO, on a reader that was started fresh: every reply, the bits taken, the frames handed out, and the reader that is left
pub record Outcome : Type 0 where
  pub replies : List Reply
  pub bits : List Bool
  pub out : List (ℕ × Frame)
  pub reader : Reader

abbrev pub outcome : List Call → Outcome
outcome cs = record { replies = replies started cs; bits = bits_taken started cs; out = handed_out started cs; reader = after_all started cs }

-- a frame of the stream as it is handed out: its position modulo 2^32
unfoldable pub reported : Placed → ℕ × Frame
reported h = (h.at % 2 ^ 32, h.frame)

-- ---- a caller who takes every waiting frame at once

-- 16 times: 997 bits hold no more frames, and a refused taking changes nothing
abbrev pub takes_all : List Call
takes_all = replicate 16 takes

unfoldable pub served : List ℕ → List Call
served [] = []
served (b ∷ bs) = (feeds b ∷ takes_all) ++ served bs

-- ---- a caller who lends slices of these sizes, takes every waiting frame after each, and lends again what was not used

unfoldable pub in_slices : Reader → List ℕ → List ℕ → List Call
in_slices r [] bs = []
in_slices r (n ∷ ns) bs =
    let cs = feeds_all (take n bs) ∷ takes_all in
    cs ++ in_slices (after_all r cs) ns (drop (fed_all_by r (take n bs)).used bs)

-- the bytes that are left at last
unfoldable pub unused : Reader → List ℕ → List ℕ → List ℕ
unused r [] bs = bs
unused r (n ∷ ns) bs = unused (after_all r (feeds_all (take n bs) ∷ takes_all)) ns (drop (fed_all_by r (take n bs)).used bs)
