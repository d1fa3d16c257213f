-- `row_out` meets its contract: the values passed are in their ranges. Assumes nothing.
use mathlib.Core.Path.{◌≡◌}
use lib.ListN.{drop}
use Rattle.record_fields.specs.Tables.{row_out}
use Rattle.record_fields.proofs.table.row_out.Given as goal

abbrev pub invariant-loop-i : goal.invariant-loop-i
invariant-loop-i l = row_out l.least l.most l.values ≡ row_out (drop l.i l.least) (drop l.i l.most) (drop l.i l.values)
