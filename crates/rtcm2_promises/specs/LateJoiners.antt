-- LATE JOINERS of the library for C and Rust, as in LateJoiners of promises: any calls on two readers, each after rtcm2_start on bytes with room.
-- Assumes nothing.
use Rattle.std.specs.Prelude.{List, ℕ}
use Rattle.record_fields.specs.Coding.{Each}
use Rattle.promises.specs.LateJoiners.{LateJoiner}
use Rattle.rtcm2_promises.specs.LineCalls.{LineCall, HasRoom, outcome_in}

abbrev pub LibraryLateJoiners : List ℕ → List ℕ → Type 0
LibraryLateJoiners state late =
    (k : ℕ) (cs ds : List LineCall) → Each HasRoom cs → Each HasRoom ds → LateJoiner k (outcome_in state cs) (outcome_in late ds)
