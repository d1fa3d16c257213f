-- `report_out` meets its contract: test by test. Assumes nothing.
use mathlib.Core.Path.{sym, ap, ◌∙◌}
use mathlib.Core.Bool.{true≢false}
use lib.Dec.{eqb}
use borrow.Author.Rules.{rules}
use Rattle.season_reports.specs.Gathering.{any_twice}
use Rattle.season_reports.specs.Reports.{rows_in}
use Rattle.season_reports.proofs.PlaceLaws.{twice-code}
use Rattle.season_reports.proofs.OutLaws.{out-many, out-wrong, out-rest}
use Rattle.season_reports.proofs.report_out.Goals as goal

pub returns-then-used-gt512 : goal.returns-then-used-gt512
returns-then-used-gt512 c = record { value = sym (out-many c.args.report c.if-used-gt512.true); each = λ e. absurd (true≢false e) }

pub returns-then-any_wrong : goal.returns-then-any_wrong
returns-then-any_wrong c =
    record { value = sym (out-wrong c.args.report (sym c.any_wrong.ensures.value ∙ c.if-any_wrong.true)); each = λ e. absurd (true≢false e) }

pub returns : goal.returns
returns c =
    let r = c.args.report in
    let sound = c.any_wrong.ensures.each c.if-any_wrong.false in
    let right = sym c.any_wrong.ensures.value ∙ c.if-any_wrong.false in
    record { value = c.is_twice.ensures ∙ ap (any_twice eqb) c.codes_of-codes.ensures ∙ twice-code (rows_in r) sound ∙ sym (out-rest r c.if-used-gt512.false right); each = λ e. sound }

pub is_twice-requires : goal.is_twice-requires
is_twice-requires c = (search rules, c.if-used-gt512.false)

pub any_wrong-requires : goal.any_wrong-requires
any_wrong-requires c = c.if-used-gt512.false

pub codes_of-codes-requires : goal.codes_of-codes-requires
codes_of-codes-requires c = c.if-used-gt512.false
