-- DEMAND 3 of the library for C and Rust, sentence by sentence as in Demand3 of promises, of any calls that read the line after rtcm2_start on bytes
-- with room. Assumes nothing.
use Rattle.std.specs.Prelude.{◌≡◌, List, ◌∷◌, ◌++◌, map, ℕ, take}
use Rattle.answer.specs.Order.{answers}
use Rattle.frame.specs.Frames.{bare}
use Rattle.record_fields.specs.Coding.{Each}
use Rattle.reader.specs.Reading.{started}
use Rattle.reader.specs.declared.Taken.{Taken}
use Rattle.journal.specs.Journal.{held_by}
use Rattle.rtcm2_state.specs.State.{state_in, state_put}
use Rattle.rtcm2.specs.Frames.{recall_said}
use Rattle.rtcm2.specs.Line.{started_in, taken_in}
use Rattle.promises.specs.Calls.{ends, after_all, outcome, takes_all, served}
use Rattle.promises.specs.Demand3.{OnlyFrames, AsSoonAs, NothingLost, HandedOut, OneByOne, InSlices, NeverFive, DamageBeginsNothing}
use Rattle.promises.specs.Demand3.{OppositeCalls, turned_reply}
use Rattle.rtcm2_promises.specs.LineCalls.{LineCall, feed, HasRoom, asked, reply_in, after_in, after_all_in, begun_in, outcome_in, SlicesIn}

-- THE LIBRARY'S READER IS THE PACKAGE'S: rtcm2_start answers, every reply is that of the package's reader to the same calls, and so are the bits taken
-- and the frames handed out; the bytes are its state's, and those past them as they were
pub record IsReader (state : List ℕ) (cs : List LineCall) : Type 0 where
  pub starts : started_in state ≡ answers started
  pub same : outcome_in state cs ≡ outcome (asked cs)
  pub bytes : after_all_in (begun_in state) cs ≡ state_put (after_all started (asked cs)) state

-- A FRAME COMES AS ITS RECORD: on any bytes, rtcm2_recall of the `length` bytes that rtcm2_take left, whatever follows them, gives that length and
-- the frame that was taken, all but its pair, which comes beside it
abbrev pub TakesItsRecord : Type 0
TakesItsRecord = (state frame rest : List ℕ) (size : ℕ) (t : Taken) → taken_in state frame ≡ answers (size, t)
    → recall_said (take size (held_by t.frame frame) ++ rest) ≡ answers (size, bare t.frame)

-- THE DEMAND, of a state's bytes with room
pub record LibraryDemand3 (state : List ℕ) : Type 0 where
  pub reader : (cs : List LineCall) → Each HasRoom cs → IsReader state cs
  -- "Let a correct frame stand undamaged in the bits taken .. It is handed out once and exactly, at latest when 990 bits from its first have been
  -- taken or the input has ended, unless a frame already handed out covers its first bit. This holds when every waiting frame is taken at once .."
  pub out : (cs ts : List LineCall) → Each HasRoom cs → Each HasRoom ts → asked ts ≡ takes_all → HandedOut (outcome_in state cs) (outcome_in state (cs ++ ts))
  pub each : (bs : List ℕ) (cs es : List LineCall) → Each HasRoom cs → Each HasRoom es → asked cs ≡ served bs → asked es ≡ ends ∷ takes_all
      → OneByOne bs (outcome_in state cs) (outcome_in state (cs ++ es))
  pub slices : (ns bs rest : List ℕ) (cs : List LineCall) → Each HasRoom cs → SlicesIn (begun_in state) ns bs cs rest → InSlices ns bs rest (outcome_in state cs)
  -- "Turning over all bits from the start changes no frame handed out."
  pub turned : (cs ds : List LineCall) → Each HasRoom cs → Each HasRoom ds → OppositeCalls (asked cs) (asked ds)
      → (outcome_in state ds).replies ≡ map turned_reply (outcome_in state cs).replies
  -- "If the first damaged word .. has one, two or three turned bits, nothing begins where that frame began."
  pub damage : (cs : List LineCall) → Each HasRoom cs → DamageBeginsNothing (outcome_in state cs)
  -- "Only frames by the definition are ever handed out."
  pub only : (cs : List LineCall) → Each HasRoom cs → OnlyFrames (outcome_in state cs)
  pub nothing-lost : (cs : List LineCall) → Each HasRoom cs → NothingLost (outcome_in state cs)
  -- of the hunt (RULES 5)
  pub soon : (cs : List LineCall) → Each HasRoom cs → AsSoonAs (outcome_in state cs)
  pub never-5 : (cs : List LineCall) → Each HasRoom cs
      → NeverFive (outcome_in state cs) (λ b. reply_in (after_all_in (begun_in state) cs) (feed b)) (λ b. state_in (after_in (after_all_in (begun_in state) cs) (feed b)))
