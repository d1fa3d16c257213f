-- `frequency_of` meets its contract: 6, 10, then code by code. Assumes nothing.
use mathlib.Core.Path.{◌≡◌, sym, ap, ◌∙◌}
use mathlib.Core.Bool.{false}
use native.Mathlib.Omega.{arith}
use borrow.Author.Tests.{eq-eqb, ne_eqb, lt-ltb, le-ltb}
use Rattle.frame.specs.declared.Layout.TheVariants as layout
use Rattle.record_stages.specs.Stages.{other_layout}
use Rattle.record_stages.proofs.StageLaws.{told-other, told_same}
use Rattle.record_observations.specs.Meanings.{other_band, frequency_of}
use Rattle.record_observations.proofs.meanings.frequency_of.Goals as goal

pub returns-in_default : goal.returns-in_default
unfolding frequency_of
returns-in_default c = rw (told-other (other_layout layout.Observation c.args.kind) (sym c.in_default.is
    ∙ c.asked_of.ensures))

pub returns-then-code-gt3 : goal.returns-then-code-gt3
unfolding frequency_of
returns-then-code-gt3 c =
    let same : other_layout layout.Observation c.args.kind ≡ false = told_same _ (sym c.in-Same.is ∙ c.asked_of.ensures) in
    rw (same, lt-ltb 3 _ c.if-code-gt3.true)

pub returns-in-0 : goal.returns-in-0
unfolding frequency_of
returns-in-0 c =
    let same : other_layout layout.Observation c.args.kind ≡ false = told_same _ (sym c.in-Same.is ∙ c.asked_of.ensures) in
    rw (same, le-ltb 3 _ c.if-code-gt3.false, eq-eqb _ 0 c.in-0.is)

pub returns-in-2 : goal.returns-in-2
unfolding frequency_of
returns-in-2 c =
    let same : other_layout layout.Observation c.args.kind ≡ false = told_same _ (sym c.in-Same.is ∙ c.asked_of.ensures) in
    rw (same, le-ltb 3 _ c.if-code-gt3.false, ne_eqb c.args.code 0 (λ e. omega arith), eq-eqb _ 2 c.in-2.is)

pub returns-in_default-code : goal.returns-in_default-code
unfolding frequency_of
returns-in_default-code c =
    let same : other_layout layout.Observation c.args.kind ≡ false = told_same _ (sym c.in-Same.is ∙ c.asked_of.ensures) in
    let a = c.args in
    c.other_band.ensures ∙ ap (λ q. other_band a.edition q a.code) c.quantity_of.ensures
    ∙ rw (same, le-ltb 3 _ c.if-code-gt3.false) (rw (ne_eqb c.args.code 0 (λ e. omega arith), ne_eqb c.args.code 2 (λ e. omega arith)))
