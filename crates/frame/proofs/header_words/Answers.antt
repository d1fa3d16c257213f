-- `header_words` meets its contract: the laws on the words as numbers. Assumes nothing.
use mathlib.Core.Bool.{false}
use mathlib.Core.Path.{◌≡◌, sym, ap₂, ◌∙◌}
use borrow.Author.Tests.{le-ltb}
use Rattle.std.specs.Prelude.{Ok}
use Rattle.frame.specs.Widths.{header_outside}
use Rattle.frame.proofs.HeaderLaws.{first-number, second-number}
use Rattle.frame.proofs.WidthLaws.{to_inside}
use Rattle.frame.proofs.header_words.Goals as goal

pub returns : goal.returns
returns c =
    let a = c.args in
    let w : header_outside a.header ≡ false = sym c.header_outside.ensures ∙ c.if-header_outside.false in
    let i = to_inside a.header w in
    simp (w, le-ltb _ _ c.if-n-gt31.false)
    (ap₂ (λ a b. Ok (a, b)) (first-number a.header i) (cc (second-number a.header a.n i c.if-n-gt31.false)))
