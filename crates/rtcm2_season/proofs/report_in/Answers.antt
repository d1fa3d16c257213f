-- `report_in` meets its contract: no row where no report is held, else how many are in use and the rows. Assumes nothing.
use mathlib.Core.Path.{◌≡◌, sym, ◌∙◌}
use mathlib.Core.Bool.{true}
use native.Mathlib.Omega.{arith}
use Rattle.rtcm2_season.specs.Reports.{holds_report}
use Rattle.rtcm2_season.proofs.ReportLaws.{held-long, held-few, read_none, read_is}
use Rattle.rtcm2_season.proofs.report_in.Goals as goal

pub returns-then-not-holds_report : goal.returns-then-not-holds_report
returns-then-not-holds_report c =
    c.empty.ensures ∙ sym (read_none c.args.bytes.now (sym c.holds_report.ensures ∙ c.if-not-holds_report.true))

pub returns : goal.returns
returns c =
    let held : holds_report c.args.bytes.now ≡ true = sym c.holds_report.ensures ∙ c.if-not-holds_report.false in
    read_is c.args.bytes.now held c.used_in-used.ensures c.rows_in-rows.ensures

pub used_in-used-requires : goal.used_in-used-requires
used_in-used-requires c =
    let held : holds_report c.args.bytes.now ≡ true = sym c.holds_report.ensures ∙ c.if-not-holds_report.false in
    held-long c.args.bytes.now held

pub rows_in-rows-requires : goal.rows_in-rows-requires
rows_in-rows-requires c =
    let held : holds_report c.args.bytes.now ≡ true = sym c.holds_report.ensures ∙ c.if-not-holds_report.false in
    let bs = c.args.bytes.now in
    (omega (arith, held-few bs held, c.used_in-used.ensures), held-long bs held)
