-- `few_profile` meets its contract: the number of satellites, then the satellites. Assumes nothing.
use mathlib.Core.Path.{sym, ◌∙◌}
use mathlib.Core.Bool.{true, false}
use Rattle.profile.proofs.ArmLaws.{few-many, few-by}
use Rattle.profile.proofs.arms.few_profile.Goals as goal

pub returns-then-count-gt3 : goal.returns-then-count-gt3
returns-then-count-gt3 c = few-many c.args.frame c.args.count c.if-count-gt3.true

pub returns-then-twice : goal.returns-then-twice
returns-then-twice c =
    let a = c.args in
    few-by a.frame a.count _ _ _ c.if-count-gt3.false c.satellite_at.ensures
    c.satellite_at-2.ensures c.satellite_at-3.ensures true (sym c.if-twice.true ∙ c.twice.ensures)

pub returns : goal.returns
returns c =
    let a = c.args in
    few-by a.frame a.count _ _ _ c.if-count-gt3.false c.satellite_at.ensures
    c.satellite_at-2.ensures c.satellite_at-3.ensures false (sym c.if-twice.false ∙ c.twice.ensures)
