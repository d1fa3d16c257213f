-- `any_wrong` meets its contract: by a loop that has passed no wrong row. Assumes nothing.
use mathlib.Core.Path.{◌≡◌, refl, sym, ap, subst, ◌∙◌}
use mathlib.Core.Bool.{true≢false}
use Prim.Native.Nat.{◌≤◌, ◌<◌}
use native.Mathlib.Omega.{arith}
use lib.ListN.{length, take, get_or, length-take}
use lib.Seq.{get_or-take}
use borrow.Author.Count.{below_more}
use borrow.Author.Rules.{rules}
use Rattle.season_reports.specs.Rows.{blank_row, wrong_sum}
use Rattle.season_reports.specs.Tables.{SoundRow}
use Rattle.season_reports.proofs.PlaceLaws.{turn-hit, turn-miss, turn_end, each_all}
use Rattle.season_reports.proofs.table.any_wrong.Goals as goal

pub loop-i-init : goal.loop-i-init
loop-i-init c = (refl, (omega arith, λ j h. absurd (omega arith)))

pub returns-then-is_wrong : goal.returns-then-is_wrong
returns-then-is_wrong c =
    let full : length c.args.report.rows ≡ 512 = search rules in
    let r = c.args.report in
    let size = full in
    let h : c.loop-i.i < length (take r.used r.rows) = omega (arith, length-take r.used r.rows) in
    record {
      value = sym (c.loop-i.invariant.0 ∙ turn-hit wrong_sum c.loop-i.i (take r.used r.rows) blank_row h
          (ap wrong_sum (get_or-take r.used r.rows c.loop-i.i blank_row (omega arith)) ∙ sym c.is_wrong.ensures.value ∙ c.if-is_wrong.true));
      each = λ e. absurd (true≢false e);
    }

pub loop-i-preserved : goal.loop-i-preserved
loop-i-preserved c =
    let full : length c.args.report.rows ≡ 512 = search rules in
    let r = c.args.report in
    let size = full in
    let h : c.loop-i.i < length (take r.used r.rows) = omega (arith, length-take r.used r.rows) in (
      c.loop-i.invariant.0 ∙ turn-miss wrong_sum c.loop-i.i (take r.used r.rows) blank_row h
          (ap wrong_sum (get_or-take r.used r.rows c.loop-i.i blank_row (omega arith)) ∙ sym c.is_wrong.ensures.value ∙ c.if-is_wrong.false),
      (
        omega arith,
        below_more (λ j. SoundRow (get_or r.rows j blank_row)) c.loop-i.i c.loop-i.invariant.1.1
            (record { typed = c.is_wrong.ensures.typed_row; right = sym c.is_wrong.ensures.value ∙ c.if-is_wrong.false }),
      ),
    )

pub returns : goal.returns
returns c =
    let full : length c.args.report.rows ≡ 512 = search rules in
    let r = c.args.report in
    let size = full in
    let past : length (take r.used r.rows) ≤ c.loop-i.i = omega (arith, length-take r.used r.rows) in
    record {
      value = sym (c.loop-i.invariant.0 ∙ turn_end wrong_sum c.loop-i.i (take r.used r.rows) blank_row past);
      each = λ e. each_all SoundRow (take r.used r.rows) blank_row
          (λ j h. let k : j < r.used = omega (arith, length-take r.used r.rows) in
          subst SoundRow (sym (get_or-take r.used r.rows j blank_row k)) (c.loop-i.invariant.1.1 j (omega arith)));
    }

pub offset_bounds-rows-i : goal.offset_bounds-rows-i
offset_bounds-rows-i c = omega arith

pub bounds-rows-i : goal.bounds-rows-i
bounds-rows-i c = omega arith
