-- `corrections_profile` meets its contract: by the count that is read. Assumes nothing.
use mathlib.Core.Path.{sym, ap, ◌∙◌}
use Rattle.profile.specs.Arms.{counted_profile}
use Rattle.profile.proofs.arms.corrections_profile.Goals as goal

pub returns-in-Of : goal.returns-in-Of
returns-in-Of c =
    c.few_profile.ensures
    ∙ ap (counted_profile c.args.frame) (sym c.in-Of.is ∙ c.count_corrections-found.ensures)

pub returns-in-Refused : goal.returns-in-Refused
returns-in-Refused c =
    ap (counted_profile c.args.frame)
    (sym c.in-Refused.is ∙ c.count_corrections-found.ensures)
