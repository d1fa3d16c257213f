-- `codes_of` meets its contract: by a loop that fills the array code by code. Assumes nothing.
use mathlib.Core.Path.{◌≡◌}
use mathlib.Core.List.{map}
use Prim.Native.Nat.{◌≤◌}
use lib.ListN.{length, take}
use Rattle.season_reports.specs.Gathering.{keys_of}
use Rattle.season_reports.specs.Tables.{code_of}
use Rattle.season_reports.proofs.table.codes_of.Given as goal

abbrev pub invariant-loop-i : goal.invariant-loop-i
invariant-loop-i l = (take l.i l.codes ≡ map code_of (keys_of (take l.i l.rows))) × ((l.i ≤ l.used) × (length l.codes ≡ 512))
