-- `put_digits` meets its contract: by a loop that stores the last of the digits left. Assumes nothing.
use mathlib.Core.Path.{◌≡◌, sym, ap, ◌∙◌}
use mathlib.Core.List.{◌++◌}
use native.Mathlib.Omega.{arith}
use lib.ListN.{drop}
use Rattle.printing.specs.Printing.{last_digits}
use Rattle.printing.proofs.DigitLaws.{store-digit}
use Rattle.printing.proofs.put_digits.Goals as goal

pub loop-i-preserved : goal.loop-i-preserved
loop-i-preserved c =
    let v = c.loop-i in
    v.invariant ∙ store-digit v.digits v.i v.left c.loop-i-test.true (omega arith)

pub returns : goal.returns
unfolding last_digits
returns c =
    let v = c.loop-i in
    let none : v.i ≡ 0 = omega arith in
    sym (v.invariant ∙ ap (λ k. last_digits k v.left ++ drop k v.digits) none)
