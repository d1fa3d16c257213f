-- `suits` meets its contract: the stages in their order, then the number of entries. Assumes nothing.
use mathlib.Core.Path.{◌≡◌, sym, ◌∙◌}
use mathlib.Core.List.{List, [], ◌∷◌}
use Rattle.answer.specs.Order.{Check, in_order}
use Rattle.frame.specs.Answer.{header_widths, clock_of}
use Rattle.record_stages.specs.declared.Asked.TheVariants.{Same}
use Rattle.record_stages.specs.declared.checks.Suited.{Suited}
use Rattle.record_stages.specs.declared.checks.Suited.TheVariants.{Yes, Refused}
use Rattle.record_stages.specs.Stages.{asked_of, wrong_count, suited_by}
use Rattle.record_stages.proofs.StageLaws.{make5, make6, make7, make-on}
use Rattle.record_stages.proofs.ListCode.{count-zero, count-many, count-fine}
use Rattle.record_stages.proofs.checks.suits.Goals as goal
use Rattle.record_stages.proofs.checks.suits.Goals.{then-count-eq0-via-then-count-eq0, then-count-eq0-via-else-count-eq0+then-count-most}
use Rattle.answer.specs.Table.{granted}

pub returns-in_default : goal.returns-in_default
returns-in_default c =
    let twelve : List Check = (wrong_count c.args.most c.args.count, 12) ∷ [] in
    make5 c.args.layout c.args.header twelve Refused Yes (sym c.in_default.is ∙ c.header_widths.ensures)

pub returns-in_default-asked_of : goal.returns-in_default-asked_of
returns-in_default-asked_of c =
    let twelve : List Check = (wrong_count c.args.most c.args.count, 12) ∷ [] in
    let within : granted ≡ header_widths c.args.header = sym c.in-Ok.is ∙ c.header_widths.ensures in
    make6 c.args.layout c.args.header twelve Refused Yes within (sym c.in_default-asked_of.is ∙ c.asked_of.ensures)

pub returns-in_default-clock_of : goal.returns-in_default-clock_of
returns-in_default-clock_of c =
    let twelve : List Check = (wrong_count c.args.most c.args.count, 12) ∷ [] in
    let within : granted ≡ header_widths c.args.header = sym c.in-Ok.is ∙ c.header_widths.ensures in
    let same : Same ≡ asked_of c.args.layout c.args.header.kind = sym c.in-Same.is ∙ c.asked_of.ensures in
    make7 c.args.layout c.args.header twelve Refused Yes
    within same (sym c.in_default-clock_of.is ∙ c.clock_of.ensures)

pub returns-then-count-eq0 : goal.returns-then-count-eq0
returns-then-count-eq0 c =
    let twelve : List Check = (wrong_count c.args.most c.args.count, 12) ∷ [] in
    let within : granted ≡ header_widths c.args.header = sym c.in-Ok.is ∙ c.header_widths.ensures in
    let same : Same ≡ asked_of c.args.layout c.args.header.kind = sym c.in-Same.is ∙ c.asked_of.ensures in
    let hour : granted ≡ clock_of c.args.header.z = sym c.in-Ok-clock_of.is ∙ c.clock_of.ensures in
    let twelve-decides : (r : Suited) → r ≡ in_order twelve Refused Yes → r ≡ suited_by c.args.layout c.args.header c.args.most c.args.count = λ r e. e ∙ make-on c.args.layout c.args.header twelve Refused Yes within same hour in
    let a = c.args in
    twelve-decides (Refused 12) (elim c.then-count-eq0.branch [
      | then-count-eq0-via-then-count-eq0 w ↦ count-zero Refused Yes a.most a.count w.if-count-eq0.true
      | then-count-eq0-via-else-count-eq0+then-count-most w ↦ count-many Refused Yes a.most a.count w.if-count-eq0.false w.if-count-most.true
    ])

pub returns : goal.returns
returns c =
    let twelve : List Check = (wrong_count c.args.most c.args.count, 12) ∷ [] in
    let within : granted ≡ header_widths c.args.header = sym c.in-Ok.is ∙ c.header_widths.ensures in
    let same : Same ≡ asked_of c.args.layout c.args.header.kind = sym c.in-Same.is ∙ c.asked_of.ensures in
    let hour : granted ≡ clock_of c.args.header.z = sym c.in-Ok-clock_of.is ∙ c.clock_of.ensures in
    let twelve-decides : (r : Suited) → r ≡ in_order twelve Refused Yes → r ≡ suited_by c.args.layout c.args.header c.args.most c.args.count = λ r e. e ∙ make-on c.args.layout c.args.header twelve Refused Yes within same hour in
    let a = c.args in
    twelve-decides Yes (count-fine Refused Yes a.most a.count c.if-count-eq0.false c.if-count-most.false)
