-- `push_all` meets its contract: what is left of the table is to be pushed after what is there. Assumes nothing.
use mathlib.Core.Path.{refl, sym, ◌∙◌}
use native.Mathlib.Omega.{arith}
use Rattle.record_fields.proofs.TableLaws.{push-next, push-end}
use Rattle.record_fields.proofs.table.push_all.Goals as goal

pub loop-i-preserved : goal.loop-i-preserved
loop-i-preserved c =
    let l = c.loop-i in
    let a = c.args in
    l.invariant
    ∙ push-next a.widths.now a.values l.i _ c.item.result l.p c.push-p.result (omega arith) refl c.item.ensures c.push-p.ensures

pub returns : goal.returns
returns c =
    let a = c.args in
    let l = c.loop-i in
    sym (l.invariant ∙ push-end a.widths.now a.values l.i l.p (omega arith))
