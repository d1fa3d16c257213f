-- `rtcm2_season_journal` meets its contract: no report held, the refusal of adding, or the report and the bytes used. Assumes nothing.
use mathlib.Core.Path.{◌≡◌, refl, sym, ap, ◌∙◌}
use mathlib.Core.Bool.{true}
use Rattle.season_reports.specs.Reports.{journal_added}
use Rattle.season_reports.specs.declared.JournalReport.{JournalReport}
use Rattle.rtcm2_season.specs.Reports.{holds_report, report_in, report_put}
use Rattle.rtcm2.specs.Season.{journal_said}
use Rattle.rtcm2.proofs.LineLaws.{number-refused, number-answered, left_alone, left-put}
use Rattle.rtcm2.proofs.SeasonLaws.{adding-none, adding-refused, adding-done}
use Rattle.rtcm2.proofs.season.rtcm2_season_journal.Goals as goal

pub returns-then-not-holds_report : goal.returns-then-not-holds_report
unfolding journal_said
returns-then-not-holds_report c =
    let a = c.args in
    let report = a.report.now in
    let e = adding-none (λ (j : JournalReport). j.answer) (λ r. journal_added r a.bytes.now) report
    (sym c.holds_report.ensures ∙ c.if-not-holds_report.true) in
    record {
      value = number-refused e;
      report_after = left_alone (λ (j : JournalReport). report_put j.report report) report e;
      used_after = left_alone (λ (j : JournalReport). j.used) a.used.now e;
    }

pub returns-in-Refused : goal.returns-in-Refused
unfolding journal_said
returns-in-Refused c =
    let held : holds_report c.args.report.now ≡ true = sym c.holds_report.ensures ∙ c.if-not-holds_report.false in
    let called : c.add_journal-added.result ≡ journal_added (report_in c.args.report.now) c.args.bytes.now = let a = c.args in
    c.add_journal-added.ensures ∙ ap (λ r. journal_added r a.bytes.now) c.report_in.ensures in
    let a = c.args in
    let report = a.report.now in
    let e = adding-refused (λ (j : JournalReport). j.answer) (λ r. journal_added r a.bytes.now) report held called
    c.in-Refused.is in
    record {
      value = number-refused e;
      report_after = left_alone (λ (j : JournalReport). report_put j.report report) report e;
      used_after = left_alone (λ (j : JournalReport). j.used) a.used.now e;
    }

pub returns : goal.returns
unfolding journal_said
returns c =
    let held : holds_report c.args.report.now ≡ true = sym c.holds_report.ensures ∙ c.if-not-holds_report.false in
    let called : c.add_journal-added.result ≡ journal_added (report_in c.args.report.now) c.args.bytes.now = let a = c.args in
    c.add_journal-added.ensures ∙ ap (λ r. journal_added r a.bytes.now) c.report_in.ensures in
    let a = c.args in
    let report = a.report.now in
    let e = adding-done (λ (j : JournalReport). j.answer) (λ r. journal_added r a.bytes.now) report held called c.in_default.is in
    record { value = number-answered e; report_after = left-put (λ (j : JournalReport). report_put j.report report) report e c.put_report.ensures.bytes_after; used_after = left-put (λ (j : JournalReport). j.used) a.used.now e refl }
