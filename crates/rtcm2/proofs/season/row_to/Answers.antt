-- `row_to` meets its contract: the refusal that there was, or what putting the row leaves. Assumes nothing.
use mathlib.Core.Path.{sym, ap, ◌∙◌}
use Rattle.rtcm2_rows.specs.Rows.{says_put}
use Rattle.season_reports.specs.Reports.{says_row}
use Rattle.rtcm2_season.specs.Rows.{report_row}
use Rattle.rtcm2.specs.Answer.{number_of}
use Rattle.rtcm2.proofs.RowLaws.{puts-as}
use Rattle.rtcm2.proofs.season.row_to.Goals as goal

pub returns-in-At : goal.returns-in-At
returns-in-At c =
    let a = c.args in
    let said = puts-as report_row a.row.now (ap says_row (sym c.in-At.is))
    (c.number_of.ensures ∙ ap (λ x. number_of (says_put x)) c.put_row.ensures.value, c.put_row.ensures.bytes_after) in
    record { value = said.0; row_after = said.1 }
