-- `extremes_with` meets its contract: absent, or the two numbers that the codes mean. Assumes nothing.
use mathlib.Core.Path.{ap₂, ◌∙◌}
use Prim.Native.Nat.{◌%◌}
use native.Mathlib.Omega.{arith}
use mir.Syntax.{w32}
use borrow.Author.Tests.{eq-eqb, ne_eqb}
use Rattle.record_fields.proofs.SignedCode.{signed-held}
use Rattle.season_reports.specs.declared.Extremes.TheVariants.{Present}
use Rattle.rtcm2_season.proofs.row.extremes_with.Goals as goal

pub returns : goal.returns
returns c =
    let a = c.args in
    ap₂ Present (signed-held w32 c.signed32.result (a.least % 4294967296) c.signed32.ensures (omega arith))
    (signed-held w32 c.signed32-2.result (a.largest % 4294967296) c.signed32-2.ensures (omega arith))
    ∙ rw (ne_eqb _ 0 c.if-present-eq0.false)

pub returns-then-present-eq0 : goal.returns-then-present-eq0
returns-then-present-eq0 c = rw (eq-eqb _ 0 c.if-present-eq0.true)
