-- `count_in` meets its contract: the stages in their order. Assumes nothing.
use mathlib.Core.Path.{◌≡◌, sym, ap, ◌∙◌}
use mathlib.Core.List.{[]}
use Rattle.frame.specs.Answer.{frame_widths, clock_of}
use Rattle.record_stages.specs.declared.Asked.TheVariants.{Same}
use Rattle.record_stages.specs.declared.Count.TheVariants as count
use Rattle.record_stages.specs.Stages.{asked_of, held_after, misfit_after}
use Rattle.record_stages.proofs.StageLaws.{read5, read6, read7, read8, read-on, told-misfit, told_entries}
use Rattle.record_stages.proofs.count_in.Goals as goal
use Rattle.answer.specs.Table.{granted}

pub returns-in_default : goal.returns-in_default
returns-in_default c =
    let a = c.args in
    let f = a.frame in
    read5 a.layout f (misfit_after a.head a.width f.n) [] count.Refused (count.Of (held_after a.head a.width f.n))
    (sym c.in_default.is ∙ c.frame_widths.ensures)

pub returns-in_default-asked_of : goal.returns-in_default-asked_of
returns-in_default-asked_of c =
    let within : granted ≡ frame_widths c.args.frame = sym c.in-Ok.is ∙ c.frame_widths.ensures in
    let a = c.args in
    let f = a.frame in
    read6 a.layout f (misfit_after a.head a.width f.n) [] count.Refused (count.Of (held_after a.head a.width f.n))
    within (sym c.in_default-asked_of.is ∙ c.asked_of.ensures)

pub returns-in_default-clock_of : goal.returns-in_default-clock_of
returns-in_default-clock_of c =
    let within : granted ≡ frame_widths c.args.frame = sym c.in-Ok.is ∙ c.frame_widths.ensures in
    let same : Same ≡ asked_of c.args.layout c.args.frame.header.kind = sym c.in-Same.is ∙ c.asked_of.ensures in
    let a = c.args in
    let f = a.frame in
    read7 a.layout f (misfit_after a.head a.width f.n) [] count.Refused (count.Of (held_after a.head a.width f.n))
    within same (sym c.in_default-clock_of.is ∙ c.clock_of.ensures)

pub returns-in_default-entries_in : goal.returns-in_default-entries_in
returns-in_default-entries_in c =
    let within : granted ≡ frame_widths c.args.frame = sym c.in-Ok.is ∙ c.frame_widths.ensures in
    let same : Same ≡ asked_of c.args.layout c.args.frame.header.kind = sym c.in-Same.is ∙ c.asked_of.ensures in
    let hour : granted ≡ clock_of c.args.frame.header.z = sym c.in-Ok-clock_of.is ∙ c.clock_of.ensures in
    let a = c.args in
    let f = a.frame in
    read8 a.layout f (misfit_after a.head a.width f.n) [] count.Refused (count.Of (held_after a.head a.width f.n))
    within same hour
    (told-misfit _ _ (sym c.in_default-entries_in.is ∙ c.entries_in.ensures))

pub returns : goal.returns
returns c =
    let within : granted ≡ frame_widths c.args.frame = sym c.in-Ok.is ∙ c.frame_widths.ensures in
    let same : Same ≡ asked_of c.args.layout c.args.frame.header.kind = sym c.in-Same.is ∙ c.asked_of.ensures in
    let hour : granted ≡ clock_of c.args.frame.header.z = sym c.in-Ok-clock_of.is ∙ c.clock_of.ensures in
    let a = c.args in
    let f = a.frame in
    let e = told_entries (misfit_after a.head a.width f.n) (held_after a.head a.width f.n) _
    (sym c.in-Some.is ∙ c.entries_in.ensures) in
    ap count.Of e.1
    ∙ read-on a.layout f (misfit_after a.head a.width f.n) [] count.Refused (count.Of (held_after a.head a.width f.n))
    within same hour e.0
