-- `twice` meets its contract: each satellite is looked for among those that follow it. Assumes nothing.
use mathlib.Core.Path.{sym, ap, ◌∙◌}
use native.Mathlib.Omega.{arith}
use lib.Dec.{eqb}
use lib.ListN.{get_or}
use Rattle.frame.specs.Widths.{any_of}
use Rattle.profile.proofs.Twice.{behind, repeated-hit, repeated-miss, repeated-end}
use Rattle.profile.proofs.satellites.twice.Goals as goal

pub returns-then-is_among : goal.returns-then-is_among
returns-then-is_among c =
    let s = c.args.satellites.now in
    let i = c.loop-i.i in
    sym (c.loop-i.invariant
    ∙ repeated-hit i s (omega arith) (ap (any_of (eqb (get_or s i 0))) (behind i s) ∙ sym c.is_among.ensures ∙ c.if-is_among.true))

pub loop-i-preserved : goal.loop-i-preserved
loop-i-preserved c =
    let s = c.args.satellites.now in
    let i = c.loop-i.i in
    c.loop-i.invariant
    ∙ repeated-miss i s (omega arith) (ap (any_of (eqb (get_or s i 0))) (behind i s) ∙ sym c.is_among.ensures ∙ c.if-is_among.false)

pub returns : goal.returns
returns c = sym (c.loop-i.invariant ∙ repeated-end c.loop-i.i c.args.satellites.now (omega arith))
