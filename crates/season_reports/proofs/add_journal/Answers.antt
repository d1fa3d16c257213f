-- `add_journal` meets its contract: 5, then what the table says to which the journal's rows were added. Assumes nothing.
use mathlib.Core.Path.{◌≡◌, sym, ap, subst, ◌∙◌}
use mathlib.Core.List.{◌++◌}
use Rattle.answer.specs.Order.{in_order}
use Rattle.season_reports.specs.Gathering.{gathered}
use Rattle.season_reports.specs.Reports.{rows_in, report_with, sum_order, refused_add, journal_rows}
use Rattle.season_reports.specs.Tables.{with_rows, no_table, finished_by, SoundRow, SoundTable}
use Rattle.season_reports.specs.declared.Adding.TheVariants.{Done}
use Rattle.season_reports.proofs.PlaceLaws.{each_append}
use Rattle.season_reports.proofs.SoundLaws.{none-sound, rows-sound, rows_append}
use Rattle.season_reports.proofs.EndLaws.{table-says}
use Rattle.season_reports.proofs.OutLaws.{out-few, journal-out, journal-done, journal-refused}
use Rattle.season_reports.proofs.add_journal.Goals as goal

pub returns-then-report_out : goal.returns-then-report_out
returns-then-report_out c =
    let a = c.args in
    sym (journal-out a.report a.bytes.now (sym c.report_out.ensures.value ∙ c.if-report_out.true))

pub table_of-requires : goal.table_of-requires
table_of-requires c =
    (out-few c.args.report (sym c.report_out.ensures.value ∙ c.if-report_out.false), c.report_out.ensures.each c.if-report_out.false)

pub add_bytes-progress-requires : goal.add_bytes-progress-requires
add_bytes-progress-requires c =
    subst SoundTable (sym c.table_of.ensures)
    (rows-sound no_table (rows_in c.args.report) none-sound (c.report_out.ensures.each c.if-report_out.false))

pub returns-in-Done : goal.returns-in-Done
returns-in-Done c =
    let said : let a = c.args in
    let rows = rows_in a.report ++ journal_rows a.bytes.now in
    c.finished-sum.result ≡ in_order (sum_order rows) (refused_add a.report) (record { answer = Done; report = report_with (gathered rows) }) = let a = c.args in
    c.finished-sum.ensures
    ∙ ap (finished_by a.report) (c.add_bytes-progress.ensures.table_value.0 ∙ ap (λ x. with_rows x (journal_rows a.bytes.now)) c.table_of.ensures
    ∙ sym (rows_append no_table (rows_in a.report) (journal_rows a.bytes.now)))
    ∙ table-says a.report (rows_in a.report ++ journal_rows a.bytes.now)
    (each_append SoundRow (rows_in a.report) (journal_rows a.bytes.now) (c.report_out.ensures.each c.if-report_out.false) c.add_bytes-progress.ensures.each) in
    let a = c.args in
    ap (λ n. record { answer = c.finished-sum.result.answer; report = c.finished-sum.result.report; used = n }) c.add_bytes-progress.ensures.table_value.1
    ∙ journal-done a.report a.bytes.now c.finished-sum.result (sym c.report_out.ensures.value ∙ c.if-report_out.false) said c.in-Done.is

pub returns-in-Refused : goal.returns-in-Refused
returns-in-Refused c =
    let said : let a = c.args in
    let rows = rows_in a.report ++ journal_rows a.bytes.now in
    c.finished-sum.result ≡ in_order (sum_order rows) (refused_add a.report) (record { answer = Done; report = report_with (gathered rows) }) = let a = c.args in
    c.finished-sum.ensures
    ∙ ap (finished_by a.report) (c.add_bytes-progress.ensures.table_value.0 ∙ ap (λ x. with_rows x (journal_rows a.bytes.now)) c.table_of.ensures
    ∙ sym (rows_append no_table (rows_in a.report) (journal_rows a.bytes.now)))
    ∙ table-says a.report (rows_in a.report ++ journal_rows a.bytes.now)
    (each_append SoundRow (rows_in a.report) (journal_rows a.bytes.now) (c.report_out.ensures.each c.if-report_out.false) c.add_bytes-progress.ensures.each) in
    let a = c.args in
    journal-refused a.report a.bytes.now c.finished-sum.result (sym c.report_out.ensures.value ∙ c.if-report_out.false) said _ c.in-Refused.is
