-- `gather` meets its contract: by a loop, a row a turn; once one finds no room, it stops. Assumes nothing.
use Prim.Native.Nat.{◌≤◌}
use lib.ListN.{take}
use Rattle.season_reports.proofs.GatherLaws.{table_with, SoFar}
use Rattle.season_reports.proofs.table.gather.Given as goal

abbrev pub invariant-loop-i : goal.invariant-loop-i
invariant-loop-i l =
    SoFar (table_with l.initial.used l.initial.rows l.initial.over) (take l.count l.more) l.codes (table_with l.used l.rows l.over) l.i × (l.i ≤ l.count)
