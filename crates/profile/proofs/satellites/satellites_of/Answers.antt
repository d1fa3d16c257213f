-- `satellites_of` meets its contract: entry by entry. Assumes nothing.
use mathlib.Core.Path.{◌≡◌}
use lib.ListN.{length}
use borrow.Author.Rules.{rules}
use Rattle.profile.proofs.Parts.{mapped}
use Rattle.profile.proofs.satellites.satellites_of.Goals as goal

pub returns : goal.returns
returns c =
    let full : length c.args.entries ≡ 18 = search rules in
    mapped _ (λ e. e.satellite) _ 18 c.args.entries c.map.result c.map.ensures.items full (λ p x y q k. search rules)
