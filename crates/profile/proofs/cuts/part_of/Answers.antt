-- `part_of` meets its contract: the three are copied to the front. Assumes nothing.
use mathlib.Core.Path.{◌≡◌, ap, ◌∙◌}
use mathlib.Core.List.{◌++◌}
use Prim.Native.Nat.{◌+◌, ◌-◌}
use native.Mathlib.Omega.{arith}
use borrow.Author.Rules.{rules}
use lib.ListN.{length, take, drop, length-take, length-drop}
use lib.Seq.{take-take}
use Rattle.std.proofs.lemmas.List.{take-append-le}
use Rattle.profile.proofs.cuts.part_of.Goals as goal

pub returns : goal.returns
returns c =
    let a = c.args in
    let full : length a.entries ≡ 18 = search rules in
    let three : a.from + 3 - a.from ≡ 3 = omega arith in
    let part = take 3 (drop a.from a.entries) in
    ap (take 3) (c.copy_within.ensures.after ∙ ap (λ n. take n (drop a.from a.entries) ++ drop (0 + n) a.entries) three)
    ∙ take-append-le 3 part (drop (0 + 3) a.entries) (omega (arith, length-take 3 (drop a.from a.entries), length-drop a.from a.entries))
    ∙ take-take 3 3 (drop a.from a.entries) (omega arith)
