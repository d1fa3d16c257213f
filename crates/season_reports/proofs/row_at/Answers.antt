-- `row_at` meets its contract: 5, 9, then the row. Assumes nothing.
use mathlib.Core.Path.{sym, ◌∙◌}
use native.Mathlib.Omega.{arith}
use Rattle.season_reports.proofs.OutLaws.{out-few, row-out, row-past, row-there}
use Rattle.season_reports.proofs.row_at.Goals as goal

pub returns-then-report_out : goal.returns-then-report_out
returns-then-report_out c =
    sym (row-out c.args.report c.args.index (sym c.report_out.ensures.value ∙ c.if-report_out.true))

pub returns-then-index-report : goal.returns-then-index-report
returns-then-index-report c =
    sym (row-past c.args.report c.args.index (sym c.report_out.ensures.value ∙ c.if-report_out.false) c.if-index-report.true)

pub returns : goal.returns
returns c =
    sym (row-there c.args.report c.args.index (sym c.report_out.ensures.value ∙ c.if-report_out.false) c.if-index-report.false)

pub offset_bounds-rows-index : goal.offset_bounds-rows-index
offset_bounds-rows-index c =
    omega (arith, c.if-index-report.false, out-few c.args.report (sym c.report_out.ensures.value ∙ c.if-report_out.false))

pub bounds-rows-index : goal.bounds-rows-index
bounds-rows-index c =
    omega (arith, c.if-index-report.false, out-few c.args.report (sym c.report_out.ensures.value ∙ c.if-report_out.false))
