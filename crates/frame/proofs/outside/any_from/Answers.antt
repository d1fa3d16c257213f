-- `any_from` meets its contract: `any` is the definition's recursion. Assumes nothing.
use mathlib.Core.Path.{sym, ◌∙◌}
use lib.Dec.{leb}
use borrow.Author.Tests.{tests}
use Rattle.std.proofs.Common.{rules}
use Rattle.std.proofs.lemmas.Iterator.{YieldsList-from_slice}
use Rattle.std.proofs.lemmas.Iterator.Search.{any_from_yields_List}
use Rattle.frame.proofs.WidthLaws.{any_listed}
use Rattle.frame.proofs.outside.any_from.Goals as goal

pub returns : goal.returns
returns c =
    let ws = c.args.words.now in
    any_from_yields_List (leb c.args.least) _ _ _ c.any.ensures.ran (YieldsList-from_slice ws cc) (λ x b q k. search (rules, tests))
    ∙ sym (any_listed (leb c.args.least) ws)
