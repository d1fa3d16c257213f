-- `twice` meets its contract: no satellite that is passed stands there again. Assumes nothing.
use mathlib.Core.Path.{◌≡◌}
use lib.ListN.{drop}
use Rattle.profile.specs.Profile.{repeated}
use Rattle.profile.proofs.satellites.twice.Given as goal

abbrev pub invariant-loop-i : goal.invariant-loop-i
invariant-loop-i l = repeated l.satellites ≡ repeated (drop l.i l.satellites)
