-- `add_rows` meets its contract: by a loop, a batch a turn. Assumes nothing.
use mathlib.Core.Path.{◌≡◌, refl, sym, ap, subst, ◌∙◌}
use Prim.Native.Nat.{◌+◌, ◌-◌, min}
use native.Mathlib.Omega.{arith}
use lib.ListN.{length, drop, length-take, drop_of_length-le}
use borrow.Author.Rules.{rules}
use Rattle.record_fields.specs.Coding.{Each}
use Rattle.season_reports.specs.Reports.{rows_in}
use Rattle.season_reports.specs.Tables.{with_rows, rows_of_batch, SoundRow, SoundTable}
use Rattle.season_reports.proofs.PlaceLaws.{each_take, each-drop}
use Rattle.season_reports.proofs.SoundLaws.{rows-sound}
use Rattle.season_reports.proofs.LoopLaws.{part-turn}
use Rattle.season_reports.proofs.table.add_rows.Goals as goal

pub loop-from-init : goal.loop-from-init
loop-from-init c = (refl, (c.requires.sound_table, omega arith))

pub part_of-part-requires : goal.part_of-part-requires
part_of-part-requires c = (c.requires.used_bound.0, c.loop-from.invariant.1.1)

pub gather-sum-requires : goal.gather-sum-requires
gather-sum-requires c =
    let sound : Each SoundRow (rows_of_batch c.part_of-part.result) = subst (Each SoundRow) (sym c.part_of-part.ensures.1)
    (each_take SoundRow 18 (drop c.loop-from.from (rows_in c.args.report)) (each-drop SoundRow c.loop-from.from (rows_in c.args.report) c.requires.used_bound.1)) in
    record { sound_table = c.loop-from.invariant.1.0; count_bound = (omega (arith, c.part_of-part.ensures.0), sound) }

pub loop-from-preserved : goal.loop-from-preserved
loop-from-preserved c =
    let full : length c.args.report.rows ≡ 512 = search rules in
    let sound : Each SoundRow (rows_of_batch c.part_of-part.result) = subst (Each SoundRow) (sym c.part_of-part.ensures.1)
    (each_take SoundRow 18 (drop c.loop-from.from (rows_in c.args.report)) (each-drop SoundRow c.loop-from.from (rows_in c.args.report) c.requires.used_bound.1)) in
    let r = c.args.report in
    let size : length (rows_in r) ≡ r.used = omega (arith, length-take r.used r.rows, full, c.requires.used_bound.0) in
    let n : c.part_of-part.result.count ≡ min 18 (length (rows_in r) - c.loop-from.from) =
    c.part_of-part.ensures.0 ∙ ap (λ m. min 18 (m - c.loop-from.from)) (sym size) in (
      c.loop-from.invariant.0 ∙ part-turn c.loop-from.sum (rows_in r) c.loop-from.from c.part_of-part.result.count n
          ∙ ap (λ t. with_rows t (drop (c.loop-from.from + c.part_of-part.result.count) (rows_in r)))
          (ap (with_rows c.loop-from.sum) (sym c.part_of-part.ensures.1) ∙ sym c.gather-sum.ensures),
      (
        subst SoundTable (sym c.gather-sum.ensures) (rows-sound c.loop-from.sum (rows_of_batch c.part_of-part.result) c.loop-from.invariant.1.0 sound),
        omega (arith, c.part_of-part.ensures.0),
      ),
    )

pub returns : goal.returns
unfolding with_rows
returns c =
    let r = c.args.report in
    sym (c.loop-from.invariant.0 ∙ ap (with_rows c.loop-from.sum) (drop_of_length-le (rows_in r) {i = c.loop-from.from} (omega (arith, length-take r.used r.rows))))

pub overflow_add-from : goal.overflow_add-from
overflow_add-from c = omega (arith, c.part_of-part.ensures.0, c.requires.used_bound.0)

pub loop-from-smaller : goal.loop-from-smaller
loop-from-smaller c = omega (arith, c.part_of-part.ensures.0)
