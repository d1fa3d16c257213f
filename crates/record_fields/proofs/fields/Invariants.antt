-- `fields` meets its contract: the places passed hold their fields, the others zeros, and the rest of the row is what the rest of the
-- table reads. Assumes nothing.
use mathlib.Core.Path.{◌≡◌}
use mathlib.Core.List.{[], ◌++◌}
use Prim.Native.Nat.{◌+◌, ◌*◌, ◌-◌, ◌≤◌}
use lib.ListN.{length, take, drop}
use Rattle.record_fields.specs.Tables.{padded, row, fields_in}
use Rattle.record_fields.proofs.fields.Given as goal

abbrev pub invariant-loop-i : goal.invariant-loop-i
invariant-loop-i l = record {
  next : l.next ≤ 4294967295 + l.i * 4294967295;
  places : length l.out ≡ 12;
  zeros : drop l.i l.out ≡ padded (12 - l.i) [];
  row : row (fields_in l.words l.widths l.at) ≡ take l.i l.out ++ padded (12 - l.i) (fields_in l.words (drop l.i l.widths) l.next);
}
