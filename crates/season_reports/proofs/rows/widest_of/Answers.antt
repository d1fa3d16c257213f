-- `widest_of` meets its contract: by the cases of both. Assumes nothing.
use mathlib.Core.Path.{sym, ap, ap₂, ◌∙◌}
use borrow.Author.Rules.{rules}
use mir.Syntax.{w32}
use mir.ValLaws.{to_z-of_z}
use Rattle.season_reports.specs.Rows.{lesser, greater, widest}
use Rattle.season_reports.specs.declared.Extremes.TheVariants.{Present}
use Rattle.season_reports.proofs.rows.widest_of.Goals as goal

pub returns-in-Absent : goal.returns-in-Absent
unfolding widest
returns-in-Absent c = sym (ap (λ a. widest a c.args.b) c.in-Absent.is)

pub returns-in-Absent-b : goal.returns-in-Absent-b
unfolding widest
returns-in-Absent-b c = sym (ap₂ widest c.in-Present.is c.in-Absent-b.is)

pub returns-in-Present-b : goal.returns-in-Present-b
unfolding widest
returns-in-Present-b c =
    ap₂ Present
    (to_z-of_z w32 c.lesser_of.result (record { sfits = c.lesser_of.type_inv }) ∙ c.lesser_of.ensures
    ∙ ap₂ lesser (to_z-of_z w32 c.in-Present.least (search rules))
    (to_z-of_z w32 c.in-Present-b.least2 (search rules)))
    (to_z-of_z w32 c.greater_of.result (record { sfits = c.greater_of.type_inv }) ∙ c.greater_of.ensures
    ∙ ap₂ greater (to_z-of_z w32 c.in-Present.largest (search rules))
    (to_z-of_z w32 c.in-Present-b.largest2 (search rules)))
    ∙ sym (ap₂ widest c.in-Present.is c.in-Present-b.is)
