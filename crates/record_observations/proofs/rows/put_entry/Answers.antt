-- `put_entry` meets its contract: the row of the numbers, in the widths of the type and held to its ranges. Assumes nothing.
use mathlib.Core.Path.{◌≡◌, ◌∙◌}
use mathlib.Core.List.{List}
use Prim.Native.Nat.{ℕ}
use Rattle.record_fields.specs.declared.Rows.{Rows}
use Rattle.record_fields.specs.Tables.{put_row}
use Rattle.record_observations.specs.Observations.{least}
use Rattle.record_observations.proofs.rows.put_entry.Goals as goal

alike : (ws us ms ns vs xs : List ℕ) (r : Rows) → ws ≡ us → ms ≡ ns → vs ≡ xs → put_row ws least ms vs r ≡ put_row us least ns xs r
alike ws us ms ns vs xs r ew em ev = rw (ew, em, ev)

pub returns : goal.returns
returns c =
    c.put_row.ensures ∙ alike _ _ _ _ _ _ _ c.widths_of-widths.ensures c.most_of-most.ensures c.numbers_of-values.ensures
