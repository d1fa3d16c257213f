-- `rtcm2_season_add` meets its contract: no report held by the first bytes or by the second, the refusal of adding, or the sum. Assumes nothing.
use mathlib.Core.Path.{◌≡◌, sym, ap₂, ◌∙◌}
use mathlib.Core.Bool.{true}
use Rattle.season_reports.specs.Reports.{added_by}
use Rattle.season_reports.specs.declared.Added.{Added}
use Rattle.rtcm2_season.specs.Reports.{holds_report, report_in, report_put}
use Rattle.rtcm2.proofs.LineLaws.{number-refused, number-answered, left_alone, left-put}
use Rattle.rtcm2.proofs.SeasonLaws.{adding-none, adding-refused, adding-done, add_none, add-held}
use Rattle.rtcm2.proofs.season.rtcm2_season_add.Goals as goal

pub returns-then-not-holds_report : goal.returns-then-not-holds_report
returns-then-not-holds_report c =
    let a = c.args in
    let first = a.first.now in
    let e = add_none first a.second.now (sym c.holds_report.ensures ∙ c.if-not-holds_report.true) in
    record { value = number-refused e; first_after = left_alone (λ (x : Added). report_put x.report first) first e }

pub returns-then-not-holds_report-2 : goal.returns-then-not-holds_report-2
returns-then-not-holds_report-2 c =
    let held : holds_report c.args.first.now ≡ true = sym c.holds_report.ensures ∙ c.if-not-holds_report.false in
    let a = c.args in
    let first = a.first.now in
    let e = add-held first a.second.now held
    ∙ adding-none (λ (x : Added). x.answer) (added_by (report_in first)) a.second.now
    (sym c.holds_report-2.ensures ∙ c.if-not-holds_report-2.true) in
    record { value = number-refused e; first_after = left_alone (λ (x : Added). report_put x.report first) first e }

pub returns-in-Refused : goal.returns-in-Refused
returns-in-Refused c =
    let held : holds_report c.args.first.now ≡ true = sym c.holds_report.ensures ∙ c.if-not-holds_report.false in
    let held-second : holds_report c.args.second.now ≡ true = sym c.holds_report-2.ensures ∙ c.if-not-holds_report-2.false in
    let called : let a = c.args in
    c.add_report-added.result ≡ added_by (report_in a.first.now) (report_in a.second.now) = c.add_report-added.ensures ∙ ap₂ added_by c.report_in.ensures c.report_in-2.ensures in
    let a = c.args in
    let first = a.first.now in
    let e = add-held first a.second.now held
    ∙ adding-refused (λ (x : Added). x.answer) (added_by (report_in first)) a.second.now held-second called c.in-Refused.is in
    record { value = number-refused e; first_after = left_alone (λ (x : Added). report_put x.report first) first e }

pub returns : goal.returns
returns c =
    let held : holds_report c.args.first.now ≡ true = sym c.holds_report.ensures ∙ c.if-not-holds_report.false in
    let held-second : holds_report c.args.second.now ≡ true = sym c.holds_report-2.ensures ∙ c.if-not-holds_report-2.false in
    let called : let a = c.args in
    c.add_report-added.result ≡ added_by (report_in a.first.now) (report_in a.second.now) = c.add_report-added.ensures ∙ ap₂ added_by c.report_in.ensures c.report_in-2.ensures in
    let a = c.args in
    let first = a.first.now in
    let e = add-held first a.second.now held
    ∙ adding-done (λ (x : Added). x.answer) (added_by (report_in first)) a.second.now held-second called c.in_default.is in
    record { value = number-answered e; first_after = left-put (λ (x : Added). report_put x.report first) first e c.put_report.ensures.bytes_after }
