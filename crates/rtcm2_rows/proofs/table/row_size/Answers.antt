-- `row_size` meets its contract: by a loop that adds size after size. Assumes nothing.
use mathlib.Core.Path.{◌≡◌}
use native.Mathlib.Omega.{arith}
use lib.ListN.{length}
use borrow.Author.Rules.{rules}
use Rattle.rtcm2_rows.proofs.TableLaws.{span-next, span-end}
use Rattle.rtcm2_rows.proofs.table.row_size.Goals as goal

pub loop-i-preserved : goal.loop-i-preserved
loop-i-preserved c =
    let a = c.args in
    let all : length a.sizes ≡ 12 = search rules in
    let on = span-next a.sizes c.loop-i.i c.size_of-bytes.result (omega arith) c.size_of-bytes.ensures.0 in
    (omega (arith, on), (omega arith, omega (arith, c.size_of-bytes.ensures.1)))

pub returns : goal.returns
returns c =
    let a = c.args in
    let all : length a.sizes ≡ 12 = search rules in
    (omega (arith, span-end a.sizes c.loop-i.i (omega arith)), omega arith)

pub loop-i-init : goal.loop-i-init
loop-i-init c = (omega arith, (omega arith, omega arith))

pub bounds-sizes-i : goal.bounds-sizes-i
bounds-sizes-i c = omega arith

pub overflow_add-bytes : goal.overflow_add-bytes
overflow_add-bytes c = omega arith
