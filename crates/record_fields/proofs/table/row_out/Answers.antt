-- `row_out` meets its contract: the values passed are in their ranges. Assumes nothing.
use mathlib.Core.Path.{refl, sym, ◌∙◌}
use native.Mathlib.Omega.{arith}
use Rattle.record_fields.proofs.TableLaws.{out-low, out-high, out-fine, out-end}
use Rattle.record_fields.proofs.table.row_out.Goals as goal
use Rattle.record_fields.proofs.table.row_out.Goals.{then-v-item-via-then-v-item, then-v-item-via-else-v-item+then-v-m}

pub returns-then-v-item : goal.returns-then-v-item
returns-then-v-item c =
    let a = c.args in
    let l = c.loop-i in
    sym (l.invariant ∙ elim c.then-v-item.branch [
      | then-v-item-via-then-v-item w ↦ out-low a.least.now a.most.now a.values l.i c.item-v.result c.item.result _ c.item-v.ensures c.item.ensures refl (omega arith) w.if-v-item.true
      | then-v-item-via-else-v-item+then-v-m w ↦ out-high a.least.now a.most.now a.values l.i c.item-v.result c.item.result _ c.item-v.ensures c.item.ensures refl (omega arith) w.if-v-item.false w.if-v-m.true
    ])

pub loop-i-preserved : goal.loop-i-preserved
loop-i-preserved c =
    let a = c.args in
    let l = c.loop-i in
    l.invariant
    ∙ out-fine a.least.now a.most.now a.values l.i c.item-v.result c.item.result _ c.item-v.ensures c.item.ensures refl (omega arith)
    c.if-v-item.false c.if-v-m.false

pub returns : goal.returns
returns c =
    let a = c.args in
    let l = c.loop-i in
    sym (l.invariant ∙ out-end a.least.now a.most.now a.values l.i (omega arith))
