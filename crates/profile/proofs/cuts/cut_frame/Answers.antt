-- `cut_frame` meets its contract: the frame of a part. Assumes nothing.
use mathlib.Core.Path.{◌≡◌, ap, ◌∙◌}
use Prim.Native.Nat.{◌≤◌}
use native.Mathlib.Omega.{arith}
use lib.ListN.{length}
use borrow.Author.Rules.{rules}
use Rattle.record_corrections.specs.Corrections.{make_corrections}
use Rattle.profile.proofs.CutLaws.{made-part}
use Rattle.profile.proofs.cuts.cut_frame.Goals as goal

pub returns : goal.returns
returns c =
    let full : length c.args.entries ≡ 18 = search rules in
    let a = c.args in
    let within : a.count ≤ length a.entries = omega (arith, full) in
    ap (λ m. m.frame)
    (c.make_corrections-made.ensures
    ∙ ap (λ h. make_corrections h c.part_of-part.result c.part_size-size.result) c.risen-above.ensures)
    ∙ made-part a.header a.entries c.part_of-part.result a.count a.i c.part_size-size.result within
    c.part_of-part.ensures c.part_size-size.ensures
