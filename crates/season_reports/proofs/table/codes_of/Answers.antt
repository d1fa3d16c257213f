-- `codes_of` meets its contract: by a loop that fills the array code by code. Assumes nothing.
use mathlib.Core.Path.{◌≡◌, refl, sym, ap, ◌∙◌}
use mathlib.Core.List.{map}
use native.Mathlib.Omega.{arith}
use lib.ListN.{length, take}
use borrow.Author.Rules.{rules}
use Rattle.season_reports.specs.Gathering.{keys_of}
use Rattle.season_reports.specs.Tables.{code_of}
use Rattle.season_reports.proofs.LoopLaws.{codes-next}
use Rattle.season_reports.proofs.table.codes_of.Goals as goal

pub loop-i-init : goal.loop-i-init
loop-i-init c = (refl, (omega arith, refl))

pub loop-i-preserved : goal.loop-i-preserved
loop-i-preserved c =
    let full : length c.args.report.rows ≡ 512 = search rules in
    let a = c.args in
    let size = full in (
      codes-next a.report.rows c.loop-i.codes c.loop-i.i c.code_of.result (omega arith) (omega arith) c.code_of.ensures c.loop-i.invariant.0,
      (omega arith, search rules),
    )

pub returns : goal.returns
returns c =
    let a = c.args in
    let all : c.loop-i.i ≡ a.report.used = omega arith in
    sym (ap (λ j. take j c.loop-i.codes) all) ∙ c.loop-i.invariant.0 ∙ ap (λ j. map code_of (keys_of (take j a.report.rows))) all

pub offset_bounds-rows-i : goal.offset_bounds-rows-i
offset_bounds-rows-i c = omega arith

pub bounds-rows-i : goal.bounds-rows-i
bounds-rows-i c = omega arith

pub offset_bounds-codes-i : goal.offset_bounds-codes-i
offset_bounds-codes-i c = omega arith

pub bounds-codes-i : goal.bounds-codes-i
bounds-codes-i c = omega arith
