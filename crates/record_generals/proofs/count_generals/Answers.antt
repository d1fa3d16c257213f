-- `count_generals` meets its contract: the stages before the list, then those of every list with a head. Assumes nothing.
use mathlib.Core.Path.{sym, ap, ◌∙◌}
use mathlib.Core.List.{[]}
use Prim.Native.Nat.{◌+◌}
use Rattle.frame.specs.declared.Layout.TheVariants as layout
use Rattle.record_stages.specs.declared.Count.TheVariants as count
use Rattle.record_stages.specs.Stages.{count_after}
use Rattle.record_generals.specs.Generals.{generals_held, count_generals}
use Rattle.record_generals.proofs.StagedLaws.{staged-refused, staged-delay, staged-on}
use Rattle.record_generals.proofs.count_generals.Goals as goal

pub returns-in-List : goal.returns-in-List
unfolding count_generals
returns-in-List c =
    let f = c.args.frame in
    c.count_in.ensures
    ∙ ap (λ w. count_after layout.General 13 (32 + w) f) (sym (staged-delay f c.staged_of-staged.result c.staged_of-staged.ensures _ c.in-List.is))
    ∙ staged-on f c.staged_of-staged.result c.staged_of-staged.ensures _ c.in-List.is [] count.Refused (count.Of (generals_held f))

pub returns-in-Refused : goal.returns-in-Refused
unfolding count_generals
returns-in-Refused c =
    let f = c.args.frame in
    staged-refused f c.staged_of-staged.result c.staged_of-staged.ensures [] count.Refused (count.Of (generals_held f)) _ c.in-Refused.is
