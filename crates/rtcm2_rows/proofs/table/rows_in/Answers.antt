-- `rows_in` meets its contract: what is left are the rows that are not passed. Assumes nothing.
use mathlib.Core.Path.{sym, ap, ◌∙◌}
use Prim.Native.Nat.{◌^◌, ◌<◌}
use native.Mathlib.Nat.{mul-le-mul_left}
use native.Mathlib.Omega.{arith}
use borrow.Author.Rules.{rules}
use Rattle.record_fields.specs.Tables.{put_rows}
use Rattle.rtcm2_rows.proofs.TableLaws.{rows_there, row-there, rows_next, rows_end, rows-counted, rows-limited}
use Rattle.rtcm2_rows.proofs.table.rows_in.Goals as goal

pub loop-i-init : goal.loop-i-init
loop-i-init c =
    let a = c.args in
    let rows = rows_there a.sizes a.limit a.bytes.now in
    (omega arith, ap (put_rows a.widths.now a.least.now a.most.now rows) (sym c.no_rows-rows.ensures))

pub overflow_mul-i : goal.overflow_mul-i
overflow_mul-i c =
    let a = c.args in
    let few : a.limit < 2 ^ 32 = search rules in
    omega (arith, few, mul-le-mul_left c.loop-i.i c.row_size-size.ensures.1)

pub numbers_at-numbers-requires : goal.numbers_at-numbers-requires
numbers_at-numbers-requires c =
    let a = c.args in
    let below : c.loop-i.i < c.count_of-count.result = omega (arith, c.min-i-end.ensures) in
    let there = row-there a.sizes a.limit a.bytes.now c.loop-i.i c.row_size-size.result c.count_of-count.result c.row_size-size.ensures.0
    c.count_of-count.ensures below in
    there

pub loop-i-preserved : goal.loop-i-preserved
loop-i-preserved c =
    let a = c.args in
    let below : c.loop-i.i < c.count_of-count.result = omega (arith, c.min-i-end.ensures) in (
      omega arith,
      c.loop-i.invariant.1 ∙ rows_next a.sizes a.limit a.bytes.now c.loop-i.i c.row_size-size.result c.count_of-count.result c.row_size-size.ensures.0
          c.count_of-count.ensures a.widths.now a.least.now a.most.now c.numbers_at-numbers.result c.loop-i.rows c.put_row-rows.result
          (omega arith) below c.numbers_at-numbers.ensures c.put_row-rows.ensures,
    )

pub returns : goal.returns
returns c =
    let a = c.args in
    let some = rows-counted a.sizes a.limit a.bytes.now c.loop-i.i c.row_size-size.result c.count_of-count.result c.row_size-size.ensures.0
    c.count_of-count.ensures in
    sym (c.loop-i.invariant.1 ∙ rows_end a.sizes a.limit a.bytes.now c.loop-i.i a.widths.now a.least.now a.most.now c.loop-i.rows
    (omega (arith, some, rows-limited a.sizes a.limit a.bytes.now, c.min-i-end.ensures)))
