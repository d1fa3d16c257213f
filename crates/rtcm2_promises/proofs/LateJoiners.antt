-- Late joiners agree through the library too: what its calls come to is what those of the package's reader come to. Assumes nothing.
use mathlib.Core.Path.{sym, subst₂}
use mathlib.Core.List.{List}
use Prim.Native.Nat.{ℕ, ◌≤◌}
use lib.ListN.{length}
use Rattle.rtcm2_state.specs.State.{state_size}
use Rattle.promises.specs.LateJoiners.{LateJoiner}
use Rattle.promises.proofs.LateJoiners.{late-joiner}
use Rattle.rtcm2_promises.specs.LineCalls.{asked}
use Rattle.rtcm2_promises.specs.LateJoiners.{LibraryLateJoiners}
use Rattle.rtcm2_promises.proofs.LineCalls.{is-reader}

pub library-late-joiners : (state late : List ℕ) → state_size ≤ length state → state_size ≤ length late → LibraryLateJoiners state late
library-late-joiners state late h h' k cs ds a b =
    subst₂ (LateJoiner k) (sym (is-reader state h cs a).same) (sym (is-reader late h' ds b).same) (late-joiner k (asked cs) (asked ds))
