-- `part_of` meets its contract: what is copied are the rows of the report. Assumes nothing.
use mathlib.Core.Path.{◌≡◌}
use native.Mathlib.Omega.{arith}
use lib.ListN.{length}
use borrow.Author.Rules.{rules}
use Rattle.season_reports.proofs.LoopLaws.{part-law}
use Rattle.season_reports.proofs.table.part_of.Goals as goal

pub returns : goal.returns
returns c =
    let r = c.args.report in
    let full : length r.rows ≡ 512 = search rules in (
      omega (arith, c.min-count.ensures),
      part-law r.rows c.copy_from_slice.new.self _ r.used c.args.from c.min-count.result (omega arith) (omega arith) c.min-count.ensures
          c.copy_from_slice.ensures.after,
    )
