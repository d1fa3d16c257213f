-- `all_name` meets its contract: by a loop over the rows in use. Assumes nothing.
use mathlib.Core.Path.{◌≡◌}
use Prim.Native.Nat.{◌+◌, ◌*◌, ◌-◌, ◌≤◌}
use lib.ListN.{drop}
use Rattle.rtcm2_season.specs.Reports.{all_name}
use Rattle.rtcm2_season.proofs.all_name.Given as goal

-- what is left to look at says it of all
abbrev pub invariant-loop-i : goal.invariant-loop-i
invariant-loop-i l = (all_name l.used (drop 4 l.bytes) ≡ all_name (l.used - l.i) (drop (4 + l.i * 29) l.bytes)) × (l.i ≤ l.used)
