-- `rtcm2_season_start` meets its contract: 13, or a report without rows. Assumes nothing.
use mathlib.Core.Path.{ap, ◌∙◌}
use Rattle.season_reports.specs.declared.Report.{Report}
use Rattle.rtcm2_season.specs.Reports.{report_put}
use Rattle.rtcm2.proofs.LineLaws.{number-refused, number-answered, left_alone, left-put}
use Rattle.rtcm2.proofs.SeasonLaws.{start-short, start-done}
use Rattle.rtcm2.proofs.season.rtcm2_season_start.Goals as goal

pub returns-then-report-lt-SIZE : goal.returns-then-report-lt-SIZE
returns-then-report-lt-SIZE c =
    let report = c.args.report.now in
    let e = start-short report c.if-report-lt-SIZE.true in
    record { value = number-refused e; report_after = left_alone (λ (r : Report). report_put r report) report e }

pub returns : goal.returns
returns c =
    let report = c.args.report.now in
    let e = start-done report c.if-report-lt-SIZE.false in
    record { value = number-answered e; report_after = left-put (λ (r : Report). report_put r report) report e (c.put_report.ensures.bytes_after ∙ ap (λ r. report_put r report) c.empty.ensures) }
