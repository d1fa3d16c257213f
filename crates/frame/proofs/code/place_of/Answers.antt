-- `place_of` meets its contract: `position` is the definition's recursion. Assumes nothing.
use mathlib.Core.Path.{◌≡◌, ◌∙◌}
use native.Mathlib.Omega.{arith}
use lib.Dec.{eqb}
use borrow.Author.Tests.{tests}
use Rattle.std.proofs.Common.{rules}
use Rattle.std.proofs.lemmas.Iterator.{YieldsList-from_slice}
use Rattle.std.proofs.lemmas.Iterator.Search.{position_from_yields_List}
use Rattle.frame.specs.Header.{factors, place_in}
use Rattle.frame.proofs.StateLaws.{place-found, place-le}
use Rattle.frame.proofs.code.place_of.Goals as goal

pub returns : goal.returns
unfolding factors
returns c =
    let x = c.args.factor in
    let found = position_from_yields_List (eqb x) _ _ _ c.position-place.ensures.ran (YieldsList-from_slice factors cc) (λ y b q k. search (rules, tests)) in
    let is : c.unwrap_or.result ≡ place_in x factors = c.unwrap_or.ensures ∙ place-found x factors _ found in
    record { value = is; bound = omega (arith, is, place-le x factors) }
