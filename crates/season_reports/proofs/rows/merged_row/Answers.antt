-- `merged_row` meets its contract: by whether a count passes. Assumes nothing.
use mathlib.Core.Path.{sym, ap, ◌∙◌}
use mathlib.Core.Bool.{cond}
use Rattle.season_reports.specs.Rows.{together}
use Rattle.season_reports.proofs.rows.merged_row.Goals as goal

pub returns-then-is_over : goal.returns-then-is_over
returns-then-is_over c =
    let a = c.args in
    sym (ap (λ t. cond t a.old (together a.old a.row)) (sym c.is_over.ensures ∙ c.if-is_over.true))

pub joined_row-requires : goal.joined_row-requires
joined_row-requires c =
    record { sound_row = c.requires.sound_row; sound_row_2 = c.requires.sound_row_2; b_value = sym c.is_over.ensures ∙ c.if-is_over.false }

pub returns : goal.returns
returns c =
    let a = c.args in
    c.joined_row.ensures
    ∙ sym (ap (λ t. cond t a.old (together a.old a.row)) (sym c.is_over.ensures ∙ c.if-is_over.false))
