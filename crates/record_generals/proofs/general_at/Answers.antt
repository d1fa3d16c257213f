-- `general_at` meets its contract: the stages before the list, then its satellite. Assumes nothing.
use mathlib.Core.Path.{sym, ap, subst, ◌∙◌}
use mathlib.Core.List.{List, [], ◌∷◌}
use Prim.Native.Nat.{ℕ, ◌≤◌}
use lib.Dec.{leb}
use Rattle.answer.specs.Order.{Check}
use Rattle.frame.specs.declared.Frame.{Frame}
use Rattle.record_generals.specs.declared.GeneralRead.TheVariants as read
use Rattle.record_generals.specs.Generals.{head_in, no_satellite, generals_held, general_in, entry_read, general_at}
use Rattle.record_generals.proofs.LayoutLaws.{delay-small}
use Rattle.record_generals.proofs.StagedLaws.{staged-refused, staged-delay, staged-on}
use Rattle.record_generals.proofs.general_at.Goals as goal

abbrev last : Frame → ℕ → List Check
last f i = (leb (generals_held f) i, 9) ∷ (no_satellite (general_in f i), 10) ∷ []

pub entry_in-requires : goal.entry_in-requires
entry_in-requires c =
    let f = c.args.frame in
    subst (λ w. w ≤ 12) (staged-delay f c.staged_of-staged.result c.staged_of-staged.ensures _ c.in-List.is) (delay-small (head_in f).ionosphere)

pub returns-in-List : goal.returns-in-List
unfolding general_at
returns-in-List c =
    let f = c.args.frame in
    let i = c.args.index in
    c.entry_in.ensures
    ∙ ap (λ w. entry_read w f i) (sym (staged-delay f c.staged_of-staged.result c.staged_of-staged.ensures _ c.in-List.is))
    ∙ staged-on f c.staged_of-staged.result c.staged_of-staged.ensures _ c.in-List.is (last f i) read.Refused (read.Entry (general_in f i))

pub returns-in-Refused : goal.returns-in-Refused
unfolding general_at
returns-in-Refused c =
    let f = c.args.frame in
    let i = c.args.index in
    staged-refused f c.staged_of-staged.result c.staged_of-staged.ensures (last f i) read.Refused (read.Entry (general_in f i)) _ c.in-Refused.is
