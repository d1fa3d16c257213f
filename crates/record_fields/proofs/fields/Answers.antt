-- `fields` meets its contract: the places passed hold their fields, the others zeros, and the rest of the row is what the rest of the
-- table reads. Assumes nothing.
use mathlib.Core.Path.{refl, sym, ◌∙◌}
use Prim.Native.Nat.{◌≤◌, min}
use native.Mathlib.Omega.{arith}
use lib.ListN.{length, length-set, length-take}
use lib.Seq.{get_or-take}
use Rattle.record_fields.proofs.TableLaws.{fields-next, fields-done, zeros-next}
use Rattle.record_fields.proofs.fields.Goals as goal

pub loop-i-init : goal.loop-i-init
loop-i-init c = record { next = omega arith; places = refl; zeros = refl; row = refl }

pub overflow_add-next : goal.overflow_add-next
overflow_add-next c =
    let m = length-take c.min.result c.args.widths.now in
    let w = get_or-take c.min.result c.args.widths.now c.loop-i.i 0 (omega arith) in
    let f = c.type_inv.widths c.loop-i.i in
    omega arith

pub loop-i-preserved : goal.loop-i-preserved
loop-i-preserved c =
    let l = c.loop-i in
    let a = c.args in
    let m = length-take c.min.result a.widths.now in
    let w = get_or-take c.min.result a.widths.now l.i 0 (omega arith) in
    let f = c.type_inv.widths l.i in record {
      next = omega arith;
      places = length-set l.out l.i c.field_of.result ∙ l.invariant.places;
      zeros = zeros-next l.out l.i c.field_of.result (omega arith) l.invariant.zeros;
      row =
          l.invariant.row
          ∙ fields-next a.words a.widths.now l.out l.i l.next _ c.field_of.result (omega arith) l.invariant.places w c.field_of.ensures.0;
    }

pub returns : goal.returns
returns c =
    let a = c.args in
    let l = c.loop-i in
    let m = length-take c.min.result a.widths.now in
    let e : min (length a.widths.now) 12 ≤ l.i = omega arith in
    sym (l.invariant.row ∙ fields-done a.words a.widths.now l.out l.i l.next e (omega arith) l.invariant.places l.invariant.zeros)
