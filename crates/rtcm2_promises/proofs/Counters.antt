-- The library tells the counters of the package's reader. Assumes nothing.
use mathlib.Core.Path.{◌≡◌, sym, ap, subst, ◌∙◌}
use mathlib.Core.Bool.{true}
use mathlib.Core.List.{List}
use Prim.Native.Nat.{ℕ, ◌≤◌}
use lib.ListN.{length}
use Rattle.reader.specs.Reading.{started}
use Rattle.rtcm2_state.specs.State.{state_size, holds_state}
use Rattle.rtcm2_state.proofs.RoundTrip.{put-held}
use Rattle.rtcm2_state.proofs.Storable.{storable-fit}
use Rattle.rtcm2.proofs.LineLaws.{counts-held}
use Rattle.promises.specs.Calls.{after_all, Outcome}
use Rattle.promises.specs.Counters.{tally_of, met_by, Counted}
use Rattle.promises.proofs.Counters.{counters}
use Rattle.rtcm2_promises.specs.LineCalls.{asked, after_all_in, begun_in}
use Rattle.rtcm2_promises.specs.Counters.{LibraryCounters}
use Rattle.rtcm2_promises.proofs.Called.{called-started}
use Rattle.rtcm2_promises.proofs.LineCalls.{same-calls, is-reader}

pub library-counters : (state : List ℕ) → state_size ≤ length state → LibraryCounters state
library-counters state h cs room = record {
  says = counts-held (after_all_in (begun_in state) cs) held;
  counted = subst (λ (o : Outcome). Counted (tally_of o) (met_by o)) (sym (is-reader state h cs room).same) (counters.calls (asked cs));
}
  where
    held : holds_state (after_all_in (begun_in state) cs) ≡ true
    held =
        let r = after_all started (asked cs) in
        let storable = (same-calls state h cs started called-started room).called.storable in
        ap holds_state (is-reader state h cs room).bytes ∙ put-held r state h (storable-fit r storable)
