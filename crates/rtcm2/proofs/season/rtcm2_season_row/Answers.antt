-- `rtcm2_season_row` meets its contract: no report held, or what the row that was read leaves. Assumes nothing.
use mathlib.Core.Path.{sym, ◌∙◌}
use Rattle.rtcm2_season.specs.Rows.{report_row}
use Rattle.rtcm2.proofs.RowLaws.{puts-refused, puts-as}
use Rattle.rtcm2.proofs.SeasonLaws.{row-none, row-held}
use Rattle.rtcm2.proofs.season.rtcm2_season_row.Goals as goal

pub returns-then-not-holds_report : goal.returns-then-not-holds_report
returns-then-not-holds_report c =
    let a = c.args in
    let said = puts-refused report_row a.row.now (row-none a.report.now a.index (sym c.holds_report.ensures ∙ c.if-not-holds_report.true)) in
    record { value = said.0; row_after = said.1 }

pub returns : goal.returns
returns c =
    let a = c.args in
    let said = puts-as report_row a.row.now
    (row-held a.report.now a.index (sym c.holds_report.ensures ∙ c.if-not-holds_report.false) c.report_in.ensures c.row_at.ensures)
    (c.row_to.ensures.value, c.row_to.ensures.row_after) in
    record { value = said.0; row_after = said.1 }
