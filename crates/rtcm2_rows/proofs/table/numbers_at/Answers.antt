-- `numbers_at` meets its contract: by a loop that reads each number where the one before it ends. Assumes nothing.
use mathlib.Core.Path.{◌≡◌, refl, sym, ◌∙◌}
use native.Mathlib.Omega.{arith}
use lib.ListN.{length, length-set}
use borrow.Author.Rules.{rules}
use Rattle.rtcm2_rows.proofs.NumberLaws.{few-fit}
use Rattle.rtcm2_rows.proofs.TableLaws.{span-next, numbers-next, numbers-end}
use Rattle.rtcm2_rows.proofs.table.numbers_at.Goals as goal

pub loop-i-init : goal.loop-i-init
loop-i-init c = (omega arith, refl, refl, refl)

pub number_at-requires : goal.number_at-requires
number_at-requires c =
    let all : length c.args.sizes ≡ 12 = search rules in
    let on = span-next c.args.sizes c.loop-i.i c.size_of-size.result (omega arith) c.size_of-size.ensures.0 in
    (omega (arith, on, c.loop-i.invariant.2, c.requires), omega (arith, c.size_of-size.ensures.1))

pub loop-i-preserved : goal.loop-i-preserved
loop-i-preserved c =
    let a = c.args in
    let all : length a.sizes ≡ 12 = search rules in
    let on = span-next a.sizes c.loop-i.i c.size_of-size.result (omega arith) c.size_of-size.ensures.0 in (
      omega arith,
      length-set c.loop-i.numbers c.loop-i.i c.number_at.result ∙ c.loop-i.invariant.1,
      omega (arith, on, c.loop-i.invariant.2),
      c.loop-i.invariant.3 ∙ numbers-next a.sizes c.loop-i.i c.size_of-size.result (omega arith) c.size_of-size.ensures.0 a.bytes.now c.loop-i.numbers c.loop-i.next
          c.number_at.result (omega arith) c.number_at.ensures,
    )

pub returns : goal.returns
returns c =
    let a = c.args in
    let all : length a.sizes ≡ 12 = search rules in
    sym (c.loop-i.invariant.3 ∙ numbers-end a.sizes c.loop-i.i (omega arith) a.bytes.now c.loop-i.numbers c.loop-i.next (omega arith))

pub bounds-sizes-i : goal.bounds-sizes-i
bounds-sizes-i c = omega arith

pub bounds-numbers-i : goal.bounds-numbers-i
bounds-numbers-i c = omega arith

pub overflow_cast-numbers : goal.overflow_cast-numbers
overflow_cast-numbers c =
    let small = few-fit c.args.bytes.now c.loop-i.next c.size_of-size.result c.size_of-size.ensures.1 (λ i. (c.type_inv.bytes i).fits) in
    record { fits = omega (arith, small, c.number_at.ensures) }
