-- `rows_in` meets its contract: what is left are the rows that are not passed. Assumes nothing.
use mathlib.Core.Path.{◌≡◌}
use Prim.Native.Nat.{◌≤◌}
use lib.ListN.{drop}
use Rattle.record_fields.specs.Tables.{no_rows, put_rows}
use Rattle.rtcm2_rows.proofs.TableLaws.{rows_there}
use Rattle.rtcm2_rows.proofs.table.rows_in.Given as goal

abbrev pub invariant-loop-i : goal.invariant-loop-i
invariant-loop-i l = (l.i ≤ l.limit)
    × (put_rows l.widths l.least l.most (rows_there l.sizes l.limit l.bytes) no_rows ≡ put_rows l.widths l.least l.most (drop l.i (rows_there l.sizes l.limit l.bytes)) l.rows)
