-- `is_twice` meets its contract: by a loop that has passed no code that stands before it. Assumes nothing.
use mathlib.Core.Path.{refl, sym, ap, ◌∙◌}
use Prim.Native.Nat.{◌≤◌, ◌<◌}
use native.Mathlib.Omega.{arith}
use lib.Dec.{eqb}
use lib.ListN.{length, take, length-take}
use lib.Seq.{take_all}
use Rattle.season_reports.specs.Gathering.{any_twice}
use Rattle.season_reports.proofs.LoopLaws.{twice-hit, twice-miss, first-before}
use Rattle.season_reports.proofs.table.is_twice.Goals as goal

pub loop-i-init : goal.loop-i-init
unfolding any_twice
loop-i-init c = (refl, omega arith)

pub returns-then-place_of-i : goal.returns-then-place_of-i
returns-then-place_of-i c =
    let h : c.loop-i.i < length (take c.args.used c.args.codes.now) = omega (arith, length-take c.args.used c.args.codes.now, c.requires) in
    let at = first-before c.args.codes.now c.args.used c.loop-i.i (omega arith) in
    sym (twice-hit (take c.args.used c.args.codes.now) c.loop-i.i h (omega (arith, at, c.place_of.ensures.value)))

pub loop-i-preserved : goal.loop-i-preserved
loop-i-preserved c =
    let h : c.loop-i.i < length (take c.args.used c.args.codes.now) = omega (arith, length-take c.args.used c.args.codes.now, c.requires) in
    let at = first-before c.args.codes.now c.args.used c.loop-i.i (omega arith) in (
      twice-miss (take c.args.used c.args.codes.now) c.loop-i.i h c.loop-i.invariant.0 (omega (arith, at, c.place_of.ensures.value)),
      omega arith,
    )

pub returns : goal.returns
returns c =
    let xs = take c.args.used c.args.codes.now in
    let size : length xs ≤ c.loop-i.i = omega (arith, length-take c.args.used c.args.codes.now) in
    sym (sym (ap (any_twice eqb) (take_all c.loop-i.i xs size)) ∙ c.loop-i.invariant.0)

pub place_of-requires : goal.place_of-requires
place_of-requires c = (c.requires.0, omega (arith, c.requires))

pub offset_bounds-codes-i : goal.offset_bounds-codes-i
offset_bounds-codes-i c = omega arith

pub bounds-codes-i : goal.bounds-codes-i
bounds-codes-i c = omega arith
