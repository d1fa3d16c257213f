-- `finished` meets its contract: by the table's flags. Assumes nothing.
use mathlib.Core.Path.{sym, ◌∙◌}
use Rattle.season_reports.proofs.EndLaws.{finished-full, finished-over, finished-done}
use Rattle.season_reports.proofs.finished.Goals as goal

pub returns-then-table : goal.returns-then-table
returns-then-table c = let a = c.args in c.refused.ensures ∙ sym (finished-full a.report a.table c.if-table.true)

pub returns-then-table-2 : goal.returns-then-table-2
returns-then-table-2 c =
    let a = c.args in
    c.refused-then-table-2.ensures ∙ sym (finished-over a.report a.table c.if-table.false c.if-table-2.true)

pub returns : goal.returns
returns c =
    let a = c.args in
    sym (finished-done a.report a.table c.if-table.false c.if-table-2.false)
