-- `push_all` meets its contract: what is left of the table is to be pushed after what is there. Assumes nothing.
use mathlib.Core.Path.{◌≡◌}
use lib.ListN.{drop}
use Rattle.record_fields.specs.Packing.{pushed_all}
use Rattle.record_fields.proofs.table.push_all.Given as goal

abbrev pub invariant-loop-i : goal.invariant-loop-i
invariant-loop-i l = pushed_all l.widths l.values l.initial.p ≡ pushed_all (drop l.i l.widths) (drop l.i l.values) l.p
