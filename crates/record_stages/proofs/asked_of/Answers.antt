-- `asked_of` meets its contract: by the numbers of the two layouts. Assumes nothing.
use mathlib.Core.Path.{ap, ◌∙◌}
use mathlib.Core.Bool.{true, false}
use borrow.Author.Tests.{eq-eqb, ne_eqb}
use Rattle.frame.specs.Layout.{layout_number}
use Rattle.record_stages.proofs.StageLaws.{asked_by, one-layout, one-other, either}
use Rattle.record_stages.proofs.asked_of.Goals as goal

pub returns-then-found-asked : goal.returns-then-found-asked
returns-then-found-asked c =
    let a = c.args in
    asked_by a.layout a.kind _ _ _ (c.layout_number-found.ensures ∙ ap layout_number c.layout_of.ensures)
    c.layout_number-asked.ensures (one-layout _ _ c.if-found-asked.true)

pub returns-then-found-ne6 : goal.returns-then-found-ne6
returns-then-found-ne6 c =
    let a = c.args in
    asked_by a.layout a.kind _ _ _ (c.layout_number-found.ensures ∙ ap layout_number c.layout_of.ensures)
    c.layout_number-asked.ensures (one-other _ _ c.if-found-asked.false c.if-found-ne6.true)

pub returns-then-asked-eq0 : goal.returns-then-asked-eq0
returns-then-asked-eq0 c =
    let a = c.args in
    asked_by a.layout a.kind _ _ _ (c.layout_number-found.ensures ∙ ap layout_number c.layout_of.ensures)
    c.layout_number-asked.ensures (either _ _ c.if-found-asked.false c.if-found-ne6.false true (rw (eq-eqb _ 0 c.if-asked-eq0.true)))

pub returns-then-asked-eq3 : goal.returns-then-asked-eq3
returns-then-asked-eq3 c =
    let a = c.args in
    asked_by a.layout a.kind _ _ _ (c.layout_number-found.ensures ∙ ap layout_number c.layout_of.ensures)
    c.layout_number-asked.ensures
    (either _ _ c.if-found-asked.false c.if-found-ne6.false true
    (rw (ne_eqb _ 0 c.if-asked-eq0.false, eq-eqb _ 3 c.if-asked-eq3.true)))

pub returns : goal.returns
returns c =
    let a = c.args in
    asked_by a.layout a.kind _ _ _ (c.layout_number-found.ensures ∙ ap layout_number c.layout_of.ensures)
    c.layout_number-asked.ensures
    (either _ _ c.if-found-asked.false c.if-found-ne6.false false
    (rw (ne_eqb _ 0 c.if-asked-eq0.false, ne_eqb _ 3 c.if-asked-eq3.false)))
