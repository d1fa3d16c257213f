-- `all_name` meets its contract: by a loop over the rows in use. Assumes nothing.
use mathlib.Core.Path.{sym, ap, ◌∙◌}
use mathlib.Core.Bool.{◌&&◌}
use Prim.Native.Nat.{◌+◌, ◌*◌, ◌-◌}
use native.Mathlib.Omega.{arith}
use lib.ListN.{drop}
use Rattle.rtcm2_season.specs.Rows.{names_row}
use Rattle.rtcm2_season.specs.Reports.{all_name}
use Rattle.rtcm2_season.proofs.ReportLaws.{name-start, name-next, name-all}
use Rattle.rtcm2_season.proofs.all_name.Goals as goal

pub returns-then-not-names_row : goal.returns-then-not-names_row
returns-then-not-names_row c =
    let a = c.args in
    let e = sym (c.names_row.ensures ∙ ap names_row c.numbers_at.ensures) ∙ c.if-not-names_row.true in
    sym (c.loop-i.invariant.0 ∙ name-next a.bytes.now a.used c.loop-i.i (omega arith)
    ∙ ap (λ b. b && all_name (a.used - (c.loop-i.i + 1)) (drop (4 + (c.loop-i.i + 1) * 29) a.bytes.now)) e)

pub loop-i-preserved : goal.loop-i-preserved
loop-i-preserved c =
    let a = c.args in
    let e = sym (c.names_row.ensures ∙ ap names_row c.numbers_at.ensures) ∙ c.if-not-names_row.false in (
      c.loop-i.invariant.0 ∙ name-next a.bytes.now a.used c.loop-i.i (omega arith)
          ∙ ap (λ b. b && all_name (a.used - (c.loop-i.i + 1)) (drop (4 + (c.loop-i.i + 1) * 29) a.bytes.now)) e,
      omega arith,
    )

pub returns : goal.returns
returns c =
    let a = c.args in
    sym (c.loop-i.invariant.0 ∙ name-all a.bytes.now a.used c.loop-i.i (drop (4 + c.loop-i.i * 29) a.bytes.now) (omega arith))

pub loop-i-init : goal.loop-i-init
loop-i-init c = (name-start c.args.bytes.now c.args.used, omega arith)

pub overflow_mul-i : goal.overflow_mul-i
overflow_mul-i c = omega arith

pub overflow_add-i : goal.overflow_add-i
overflow_add-i c = omega arith

pub numbers_at-requires : goal.numbers_at-requires
numbers_at-requires c = omega arith
