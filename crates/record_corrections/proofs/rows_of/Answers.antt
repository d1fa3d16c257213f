-- `rows_of` meets its contract: a row an entry, one after the other. Assumes nothing.
use mathlib.Core.Path.{sym, ap, ◌∙◌}
use mathlib.Core.List.{map}
use lib.ListN.{take}
use borrow.Author.Rules.{rules}
use Rattle.std.proofs.lemmas.Iterator.{YieldsList-from_slice, YieldsList-from_take}
use Rattle.std.proofs.lemmas.Iterator.Consumers.{fold_from_yields_List}
use Rattle.record_fields.specs.Tables.{put_row, put_rows}
use Rattle.record_fields.proofs.TableLaws.{rows-folded}
use Rattle.record_corrections.specs.Corrections.{widths, least, most, numbers}
use Rattle.record_corrections.proofs.rows_of.Goals as goal

pub returns : goal.returns
returns c =
    let a = c.args in
    let ns = numbers a.system in
    fold_from_yields_List _ (λ q x. put_row widths least (most a.system) (ns x) q) c.no_rows.result c.fold.result c.fold.ensures.ran
    (YieldsList-from_take a.count (YieldsList-from_slice a.entries cc) cc) (λ q x b f k. search rules)
    ∙ sym (rows-folded ns widths least (most a.system) (take a.count a.entries) c.no_rows.result)
    ∙ ap (put_rows widths least (most a.system) (map ns (take a.count a.entries))) c.no_rows.ensures
