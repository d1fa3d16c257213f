-- `rows_in` meets its contract: by a loop that fills the array row by row. Assumes nothing.
use mathlib.Core.Path.{refl, ap, ◌∙◌}
use native.Mathlib.Omega.{arith}
use lib.ListN.{length, drop, length-set}
use Rattle.rtcm2_rows.specs.Rows.{entries_from}
use Rattle.rtcm2_rows.proofs.RowLaws.{entry_next}
use Rattle.season_reports.specs.Rows.{blank_row}
use Rattle.season_reports.specs.Reports.{report_with}
use Rattle.season_reports.specs.declared.Report.{Report}
use Rattle.rtcm2_season.specs.Rows.{row_with, report_row}
use Rattle.rtcm2_season.proofs.ReportLaws.{empty-full, row-at, blank-next, rows_all}
use Rattle.rtcm2_season.proofs.rows_in.Goals as goal

pub loop-i-init : goal.loop-i-init
unfolding entries_from report_with
loop-i-init c =
    let e = ap (λ (r : Report). r.rows) c.empty-blank.ensures in
    (refl, (e, (omega arith, ap length e ∙ empty-full)))

pub loop-i-preserved : goal.loop-i-preserved
loop-i-preserved c =
    let a = c.args in
    let bs = a.bytes.now in
    let e = c.row_with.ensures ∙ ap row_with c.numbers_at.ensures ∙ row-at bs c.loop-i.i in (
      entry_next report_row c.loop-i.i (drop 4 bs) c.loop-i.rows _ (omega arith) c.loop-i.invariant.0 e,
      (blank-next c.loop-i.rows c.loop-i.i _ blank_row (omega arith) c.loop-i.invariant.1.0, (omega arith, simp length-set c.loop-i.invariant.1.1.1)),
    )

pub returns : goal.returns
returns c =
    let a = c.args in
    rows_all a.bytes.now c.loop-i.rows c.loop-i.i a.used (omega arith) c.loop-i.invariant.0 c.loop-i.invariant.1.0

pub overflow_mul-i : goal.overflow_mul-i
overflow_mul-i c = omega arith

pub overflow_add-i : goal.overflow_add-i
overflow_add-i c = omega arith

pub numbers_at-requires : goal.numbers_at-requires
numbers_at-requires c = omega arith

pub offset_bounds-rows-i : goal.offset_bounds-rows-i
offset_bounds-rows-i c = omega arith

pub bounds-rows-i : goal.bounds-rows-i
bounds-rows-i c = omega arith
