-- `put_numbers` meets its contract: 13, or a loop that puts each number where the one before it ends. Assumes nothing.
use mathlib.Core.Path.{◌≡◌, refl, sym, ap, ◌∙◌}
use native.Mathlib.Omega.{arith}
use lib.ListN.{length, get_or}
use lib.Seq.{length-sets}
use borrow.Author.Rules.{rules}
use Rattle.rtcm2_state.specs.Numbers.{low_bytes}
use Rattle.rtcm2_rows.specs.Tables.{few, table_row}
use Rattle.rtcm2_rows.proofs.RowLaws.{put-short, put_whole}
use Rattle.rtcm2_rows.proofs.SizeLaws.{length-sized}
use Rattle.rtcm2_rows.proofs.TableLaws.{size-table, span-next, numbers-put, puts-end}
use Rattle.rtcm2_rows.proofs.table.put_numbers.Goals as goal

pub returns-then-bytes-row_size : goal.returns-then-bytes-row_size
returns-then-bytes-row_size c =
    let a = c.args in
    let said = put-short (table_row a.sizes) a.numbers a.bytes.now (omega (arith, c.if-bytes-row_size.true, c.row_size.ensures.0, size-table a.sizes)) in
    record { value = said.0; bytes_after = said.1 }

pub loop-i-init : goal.loop-i-init
loop-i-init c = (omega arith, refl, omega (arith, c.if-bytes-row_size.false, c.row_size.ensures.0), omega arith, refl)

pub put_number-requires : goal.put_number-requires
put_number-requires c =
    let a = c.args in
    let all : length a.sizes ≡ 12 = search rules in
    let on = span-next a.sizes c.loop-i.i c.size_of-size.result (omega arith) c.size_of-size.ensures.0 in
    omega (arith, on, c.loop-i.invariant.1, c.loop-i.invariant.2, c.loop-i.invariant.3)

pub loop-i-preserved : goal.loop-i-preserved
loop-i-preserved c =
    let a = c.args in
    let all : length a.sizes ≡ 12 = search rules in
    let on = span-next a.sizes c.loop-i.i c.size_of-size.result (omega arith) c.size_of-size.ensures.0 in (
      omega arith,
      ap length c.put_number.ensures ∙ length-sets c.loop-i.bytes c.loop-i.next (low_bytes c.size_of-size.result (get_or a.numbers c.loop-i.i 0)) ∙ c.loop-i.invariant.1,
      c.loop-i.invariant.2,
      omega (arith, on, c.loop-i.invariant.3),
      c.loop-i.invariant.4 ∙ numbers-put a.sizes c.loop-i.i c.size_of-size.result (omega arith) c.size_of-size.ensures.0 a.numbers c.loop-i.bytes _ c.loop-i.next
          c.put_number.ensures,
    )

pub returns : goal.returns
returns c =
    let a = c.args in
    let all : length a.sizes ≡ 12 = search rules in
    let said = put_whole (table_row a.sizes) a.numbers a.bytes.now c.loop-i.bytes (length-sized (few a.sizes) a.numbers ∙ size-table a.sizes)
    (omega (arith, c.loop-i.invariant.2, size-table a.sizes)) (sym (c.loop-i.invariant.4 ∙ puts-end a.sizes c.loop-i.i (omega arith) a.numbers c.loop-i.bytes c.loop-i.next)) in
    record { value = said.0; bytes_after = said.1 }

pub bounds-sizes-i : goal.bounds-sizes-i
bounds-sizes-i c = omega arith

pub bounds-numbers-i : goal.bounds-numbers-i
bounds-numbers-i c = omega arith

pub overflow_add-next : goal.overflow_add-next
overflow_add-next c = omega arith
