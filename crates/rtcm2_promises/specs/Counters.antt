-- HOW WORDS FAILED, told by the library: rtcm2_counts after any calls that read the line. Assumes nothing.
use Rattle.std.specs.Prelude.{◌≡◌, List, ℕ}
use Rattle.answer.specs.Order.{answers}
use Rattle.record_fields.specs.Coding.{Each}
use Rattle.rtcm2.specs.Line.{counts_in}
use Rattle.promises.specs.Counters.{tally_of, met_by, Counted}
use Rattle.rtcm2_promises.specs.LineCalls.{LineCall, HasRoom, after_all_in, begun_in, outcome_in}

-- it answers the counters of the reader, and these are what the positions ruled out in the bits taken come to
pub record CountsSaid (state : List ℕ) (cs : List LineCall) : Type 0 where
  pub says : counts_in (after_all_in (begun_in state) cs) ≡ answers (tally_of (outcome_in state cs))
  pub counted : Counted (tally_of (outcome_in state cs)) (met_by (outcome_in state cs))

abbrev pub LibraryCounters : List ℕ → Type 0
LibraryCounters state = (cs : List LineCall) → Each HasRoom cs → CountsSaid state cs
