-- `put_rows` meets its contract: by a loop that puts a row where the one before it ends. Assumes nothing.
use mathlib.Core.Path.{◌≡◌, refl, sym, ap, ◌∙◌}
use Prim.Native.Nat.{◌+◌, ◌*◌, ◌≤◌}
use native.Mathlib.Omega.{arith}
use lib.ListN.{length, get_or, drop_of_length-le}
use lib.Seq.{sets, length-sets}
use borrow.Author.Rules.{rules}
use Rattle.rtcm2_rows.specs.Rows.{row_bytes}
use Rattle.rtcm2_season.specs.Rows.{report_row}
use Rattle.rtcm2_season.proofs.ReportLaws.{unread_row, put-row-next}
use Rattle.rtcm2_season.proofs.put_rows.Goals as goal

pub loop-i-preserved : goal.loop-i-preserved
loop-i-preserved c =
    let full : length c.args.rows ≡ 512 = search rules in
    let row = report_row.codes (get_or c.args.rows c.loop-i.i unread_row) in (
      c.loop-i.invariant.0 ∙ put-row-next c.args.rows c.loop-i.bytes c.loop-i.i (omega arith) c.put_row_at.ensures,
      (omega arith, ap length c.put_row_at.ensures ∙ length-sets c.loop-i.bytes (4 + c.loop-i.i * 29) row ∙ c.loop-i.invariant.1.1),
    )

pub returns : goal.returns
unfolding row_bytes
returns c =
    let full : length c.args.rows ≡ 512 = search rules in
    let all : length c.args.rows ≤ c.loop-i.i = omega arith in
    (sym (c.loop-i.invariant.0 ∙ ap (λ r. sets c.loop-i.bytes (4 + c.loop-i.i * 29) (row_bytes report_row r)) (drop_of_length-le c.args.rows all)), full)

pub loop-i-init : goal.loop-i-init
loop-i-init c = (refl, (omega arith, refl))

pub offset_bounds-rows-i : goal.offset_bounds-rows-i
offset_bounds-rows-i c = omega arith

pub bounds-rows-i : goal.bounds-rows-i
bounds-rows-i c = omega arith

pub overflow_mul-i : goal.overflow_mul-i
overflow_mul-i c = omega arith

pub overflow_add-i : goal.overflow_add-i
overflow_add-i c = omega arith

pub put_row_at-requires : goal.put_row_at-requires
put_row_at-requires c = omega arith

pub shape_of-bytes : goal.shape_of-bytes
shape_of-bytes c = omega arith
