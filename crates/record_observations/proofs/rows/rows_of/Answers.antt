-- `rows_of` meets its contract: a row a satellite, behind the row of the head. Assumes nothing.
use mathlib.Core.Path.{sym, ap, ◌∙◌}
use mathlib.Core.List.{map}
use lib.ListN.{take}
use borrow.Author.Rules.{rules}
use Rattle.std.proofs.lemmas.Iterator.{YieldsList-from_slice, YieldsList-from_take}
use Rattle.std.proofs.lemmas.Iterator.Consumers.{fold_from_yields_List}
use Rattle.record_fields.specs.Tables.{put_row, put_rows}
use Rattle.record_fields.proofs.TableLaws.{rows-folded}
use Rattle.record_observations.specs.Observations.{widths, least, most, numbers}
use Rattle.record_observations.proofs.rows.rows_of.Goals as goal

pub returns : goal.returns
returns c =
    let a = c.args in
    let ns = numbers a.edition a.quantity in
    fold_from_yields_List _ (λ q x. put_row (widths a.quantity) least (most a.quantity) (ns x) q) c.head_rows.result c.fold.result c.fold.ensures.ran
    (YieldsList-from_take a.count (YieldsList-from_slice a.entries cc) cc) (λ q x b f k. search rules)
    ∙ sym (rows-folded ns (widths a.quantity) least (most a.quantity) (take a.count a.entries) c.head_rows.result)
    ∙ ap (put_rows (widths a.quantity) least (most a.quantity) (map ns (take a.count a.entries))) c.head_rows.ensures
