-- `measured_of` meets its contract: by what the type measures. Assumes nothing.
use mathlib.Core.Path.{sym, ap, ◌∙◌}
use Prim.Native.Nat.{◌^◌, ◌<◌}
use mir.Syntax.{w32}
use borrow.Author.Rules.{rules}
use Rattle.record_fields.proofs.SignedCode.{signed-held}
use Rattle.record_observations.specs.declared.Measured.TheVariants as measured
use Rattle.record_observations.specs.Editions.{measured_of}
use Rattle.record_observations.proofs.marks.measured_of.Goals as goal

pub returns-in-Phase : goal.returns-in-Phase
unfolding measured_of
returns-in-Phase c =
    let fits : c.args.amount < 2 ^ 32 = search rules in
    let a = c.args in
    ap (measured.Phase a.beside) (signed-held w32 c.signed32.result a.amount c.signed32.ensures fits)
    ∙ sym (ap (λ q. measured_of q a.beside a.amount) c.in-Phase.is)

pub returns-in-Range : goal.returns-in-Range
unfolding measured_of
returns-in-Range c =
    let a = c.args in
    sym (ap (λ q. measured_of q a.beside a.amount) c.in-Range.is)
