-- Any list of calls of rtcm2_feed, rtcm2_feed_all, rtcm2_end and rtcm2_take on the bytes of a state, as Calls of promises has them on a reader. The
-- number that a call answers and what it leaves in its places are those of its field in LibraryCalls. Assumes nothing.
use Rattle.std.specs.Prelude.{◌≡◌, Bool, cond, List, [], ◌∷◌, ◌++◌, map, ℕ, ◌≤◌, eqb, length, take, drop}
use Rattle.answer.specs.Order.{Says, refuses, answers}
use Rattle.frame.specs.Frames.{after_pair}
use Rattle.frame.specs.declared.Carried.{Carried}
use Rattle.frame.specs.declared.Frame.{Frame}
use Rattle.reader.specs.declared.Taken.{Taken}
use Rattle.journal.specs.Journal.{held_by}
use Rattle.rtcm2_state.specs.State.{state_in, start_put, state_put}
use Rattle.rtcm2.specs.Answer.{number_of, left, and_then}
use Rattle.rtcm2.specs.Frames.{frame_said}
use Rattle.rtcm2.specs.Line.{started_in, fed_in, fed_all_in, ended_in, taken_in}
use Rattle.promises.specs.Calls.{Call, feeds, feeds_all, ends, takes, Reply, replied, used, took, bits_given, frame_given, Outcome, takes_all}

-- a call beside its state: what it is given, and what the places hold that it is lent
pub data LineCall : Type 0 where
  feed : (byte : ℕ) → LineCall
  feed-all : (bytes : List ℕ) (used passed : ℕ) → LineCall
  line-end : LineCall
  line-take : (frame : List ℕ) (size at d29 d30 : ℕ) → LineCall

-- room enough: that of the longest record
abbrev pub HasRoom : LineCall → Type 0
HasRoom (feed byte) = Unit {0}
HasRoom (feed-all bytes u p) = Unit {0}
HasRoom line-end = Unit {0}
HasRoom (line-take frame size at d29 d30) = 102 ≤ length frame

-- the call of the package's reader that it stands for
abbrev pub asks : LineCall → Call
asks (feed byte) = feeds byte
asks (feed-all bytes u p) = feeds_all bytes
asks line-end = ends
asks (line-take frame size at d29 d30) = takes

abbrev pub asked : List LineCall → List Call
asked cs = map asks cs

-- ---- one call

-- in the table's terms: 0 says that these are the values, any other number is a refusal
abbrev pub says_number : {A : Type 0} → ℕ → A → Says A
says_number number values = cond (eqb number 0) (answers values) (refuses number)

-- what taking left in the two places for the pair
abbrev pub pair_left : Says (ℕ × Taken) → ℕ → ℕ → Carried
pair_left s d29 d30 = record { d29 = left s (λ v. v.1.frame.carried.d29) d29; d30 = left s (λ v. v.1.frame.carried.d30) d30 }

-- the frame that was taken is the one that rtcm2_recall gives of its record, the first bytes of those lent, after the pair that came beside it
abbrev pub says_record : List ℕ × (ℕ × (ℕ × Carried)) → Says (ℕ × Frame)
says_record (frame, (size, (at, pair))) = and_then (frame_said (take size frame)) (λ f. answers (at, after_pair pair f))

unfoldable pub reply_in : List ℕ → LineCall → Reply
reply_in state (feed byte) = replied (says_number (number_of (fed_in state byte)) tt)
reply_in state (feed-all bytes u p) =
    let s = fed_all_in state bytes in
    used (says_number (number_of s) (left s (λ f. f.used) u, left s (λ f. f.passed) p))
reply_in state line-end = replied (says_number (number_of (ended_in state)) tt)
reply_in state (line-take frame size at d29 d30) =
    let s = taken_in state frame in
    took (and_then (says_number (number_of s)
    (left s (λ v. held_by v.1.frame frame) frame, (left s (λ v. v.0) size, (left s (λ v. v.1.at) at, pair_left s d29 d30)))) says_record)

-- the state's bytes after it
unfoldable pub after_in : List ℕ → LineCall → List ℕ
after_in state (feed byte) = left (fed_in state byte) (λ n. state_put n.reader state) state
after_in state (feed-all bytes u p) = left (fed_all_in state bytes) (λ f. state_put f.reader state) state
after_in state line-end = left (ended_in state) (λ n. start_put n.reader.candidate n.reader.ended state) state
after_in state (line-take frame size at d29 d30) = left (taken_in state frame) (λ v. start_put v.1.reader.candidate v.1.reader.ended state) state

-- ---- call after call

unfoldable pub after_all_in : List ℕ → List LineCall → List ℕ
after_all_in state [] = state
after_all_in state (c ∷ cs) = after_all_in (after_in state c) cs

unfoldable pub replies_in : List ℕ → List LineCall → List Reply
replies_in state [] = []
replies_in state (c ∷ cs) = reply_in state c ∷ replies_in (after_in state c) cs

unfoldable pub bits_taken_in : List ℕ → List LineCall → List Bool
bits_taken_in state [] = []
bits_taken_in state (c ∷ cs) = bits_given (asks c) (reply_in state c) ++ bits_taken_in (after_in state c) cs

unfoldable pub handed_out_in : List ℕ → List LineCall → List (ℕ × Frame)
handed_out_in state [] = []
handed_out_in state (c ∷ cs) = frame_given (reply_in state c) ++ handed_out_in (after_in state c) cs

-- the bytes after rtcm2_start
abbrev pub begun_in : List ℕ → List ℕ
begun_in state = left (started_in state) (λ r. state_put r state) state

-- WHAT CALLS CAME TO after rtcm2_start; the reader is the one whose state the bytes hold
abbrev pub outcome_in : List ℕ → List LineCall → Outcome
outcome_in state cs = record {
  replies = replies_in (begun_in state) cs;
  bits = bits_taken_in (begun_in state) cs;
  out = handed_out_in (begun_in state) cs;
  reader = state_in (after_all_in (begun_in state) cs);
}

-- ---- a caller who lends slices of these sizes, takes every waiting frame after each, and lends again what was not used

-- how many bytes a reply says were used; none where it refuses
abbrev pub used_by : Reply → ℕ
used_by (replied x) = 0
used_by (used (answers v)) = v.0
used_by (used (refuses n)) = 0
used_by (took x) = 0

-- `SlicesIn state ns bs cs rest`: on this state, of the bytes bs in slices of the sizes ns, cs are the calls, and rest is left at last
pub data SlicesIn : List ℕ → List ℕ → List ℕ → List LineCall → List ℕ → Type 0 where
  no-slice : {state bs : List ℕ} → SlicesIn state [] bs [] bs
  slice-and : {state ns bs rest : List ℕ} {n : ℕ} {cs : List LineCall} (u p : ℕ) (ts : List LineCall) → asked ts ≡ takes_all
      → SlicesIn (after_all_in state (feed-all (take n bs) u p ∷ ts)) ns (drop (used_by (reply_in state (feed-all (take n bs) u p))) bs) cs rest
      → SlicesIn state (n ∷ ns) bs (feed-all (take n bs) u p ∷ (ts ++ cs)) rest
