-- `cells_in` meets its contract: by a loop that fills the array number by number. Assumes nothing.
use mathlib.Core.Path.{◌≡◌}
use mathlib.Core.List.{◌++◌}
use Prim.Native.Nat.{◌-◌}
use lib.ListN.{drop, replicate}
use Rattle.rtcm2_state.specs.State.{start_size}
use Rattle.rtcm2_state.specs.Numbers.{numbers_in}
use Rattle.rtcm2_state.proofs.cells_in.Given as goal

-- the first i numbers, and zeros
abbrev pub invariant-loop-i : goal.invariant-loop-i
invariant-loop-i l = l.cells ≡ numbers_in l.i (drop start_size l.bytes) ++ replicate (40 - l.i) 0
