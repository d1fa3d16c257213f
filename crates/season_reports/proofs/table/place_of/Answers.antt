-- `place_of` meets its contract: by a loop that has passed no such code. Assumes nothing.
use mathlib.Core.Path.{◌≡◌, refl, sym, ap, ◌∙◌}
use Prim.Native.Nat.{◌<◌}
use native.Mathlib.Omega.{arith}
use lib.Dec.{eqb}
use lib.ListN.{length, take, length-take}
use lib.Seq.{get_or-take, take_all}
use borrow.Author.Tests.{eq-eqb, ne_eqb}
use Rattle.frame.specs.Widths.{any_of}
use Rattle.season_reports.proofs.PlaceLaws.{first-at, first-none}
use Rattle.season_reports.proofs.LoopLaws.{none-next}
use Rattle.season_reports.proofs.table.place_of.Goals as goal

pub loop-i-init : goal.loop-i-init
loop-i-init c = (refl, omega arith)

pub returns-then-codes-i : goal.returns-then-codes-i
returns-then-codes-i c =
    let xs = take c.args.used c.args.codes.now in
    let h : c.loop-i.i < length xs = omega (arith, length-take c.args.used c.args.codes.now, c.requires) in
    record {
      value = sym (first-at (eqb c.args.code) xs c.loop-i.i 0 h c.loop-i.invariant.0
          (eq-eqb _ _ (sym c.if-codes-i.true ∙ sym (get_or-take c.args.used c.args.codes.now c.loop-i.i 0 (omega arith)))));
      upper_bound = omega arith;
    }

pub loop-i-preserved : goal.loop-i-preserved
loop-i-preserved c =
    let xs = take c.args.used c.args.codes.now in
    let h : c.loop-i.i < length xs = omega (arith, length-take c.args.used c.args.codes.now, c.requires) in (
      none-next (eqb c.args.code) xs c.loop-i.i 0 h c.loop-i.invariant.0
          (ne_eqb _ _ (λ e. c.if-codes-i.false (sym (e ∙ get_or-take c.args.used c.args.codes.now c.loop-i.i 0 (omega arith))))),
      omega arith,
    )

pub returns : goal.returns
returns c =
    let xs = take c.args.used c.args.codes.now in
    let size : length xs ≡ c.args.used = omega (arith, length-take c.args.used c.args.codes.now, c.requires) in
    record { value = sym (first-none (eqb c.args.code) xs (sym (ap (any_of (eqb c.args.code)) (take_all c.loop-i.i xs (omega arith))) ∙ c.loop-i.invariant.0) ∙ size); upper_bound = omega arith }

pub offset_bounds-codes-i : goal.offset_bounds-codes-i
offset_bounds-codes-i c = omega arith

pub bounds-codes-i : goal.bounds-codes-i
bounds-codes-i c = omega arith
