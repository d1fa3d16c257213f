-- `add_report` meets its contract: in the order of its refusals; the table to which both were added says the rest. Assumes nothing.
use mathlib.Core.Path.{sym, ap, subst, ◌∙◌}
use mathlib.Core.List.{◌++◌}
use Rattle.record_fields.specs.Coding.{Each}
use Rattle.season_reports.specs.Reports.{rows_in}
use Rattle.season_reports.specs.Tables.{with_rows, no_table, finished_by, SoundRow, SoundTable}
use Rattle.season_reports.proofs.PlaceLaws.{each_append}
use Rattle.season_reports.proofs.SoundLaws.{none-sound, rows-sound, rows_append}
use Rattle.season_reports.proofs.EndLaws.{table-says}
use Rattle.season_reports.proofs.OutLaws.{out-few, added-first, added-second, added-sum}
use Rattle.season_reports.proofs.add_report.Goals as goal

pub returns-then-report_out : goal.returns-then-report_out
returns-then-report_out c =
    let a = c.args in
    c.refused.ensures ∙ sym (added-first a.first a.second (sym c.report_out.ensures.value ∙ c.if-report_out.true))

pub returns-then-report_out-2 : goal.returns-then-report_out-2
returns-then-report_out-2 c =
    let a = c.args in
    c.refused-then-report_out-2.ensures
    ∙ sym (added-second a.first a.second (sym c.report_out.ensures.value ∙ c.if-report_out.false)
    (sym c.report_out-2.ensures.value ∙ c.if-report_out-2.true))

pub table_of-requires : goal.table_of-requires
table_of-requires c =
    (out-few c.args.first (sym c.report_out.ensures.value ∙ c.if-report_out.false), c.report_out.ensures.each c.if-report_out.false)

pub add_rows-sum-requires : goal.add_rows-sum-requires
add_rows-sum-requires c =
    let first-sound : Each SoundRow (rows_in c.args.first) = c.report_out.ensures.each c.if-report_out.false in
    let second-sound : Each SoundRow (rows_in c.args.second) = c.report_out-2.ensures.each c.if-report_out-2.false in
    let a = c.args in
    record { sound_table = subst SoundTable (sym c.table_of.ensures) (rows-sound no_table (rows_in a.first) none-sound first-sound); used_bound = (out-few a.second (sym c.report_out-2.ensures.value ∙ c.if-report_out-2.false), second-sound) }

pub returns : goal.returns
returns c =
    let first-sound : Each SoundRow (rows_in c.args.first) = c.report_out.ensures.each c.if-report_out.false in
    let second-sound : Each SoundRow (rows_in c.args.second) = c.report_out-2.ensures.each c.if-report_out-2.false in
    let a = c.args in
    c.finished.ensures
    ∙ ap (finished_by a.first) (c.add_rows-sum.ensures ∙ ap (λ x. with_rows x (rows_in a.second)) c.table_of.ensures
    ∙ sym (rows_append no_table (rows_in a.first) (rows_in a.second)))
    ∙ table-says a.first (rows_in a.first ++ rows_in a.second)
    (each_append SoundRow (rows_in a.first) (rows_in a.second) first-sound second-sound)
    ∙ sym (added-sum a.first a.second (sym c.report_out.ensures.value ∙ c.if-report_out.false)
    (sym c.report_out-2.ensures.value ∙ c.if-report_out-2.false))
