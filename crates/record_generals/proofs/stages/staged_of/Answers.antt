-- `staged_of` meets its contract: the stages in their order, each with what it says. Assumes nothing.
use mathlib.Core.Path.{◌≡◌, sym, ap, ◌∙◌}
use mathlib.Core.List.{List, [], ◌∷◌}
use mathlib.Core.Bool.{Bool, false}
use lib.ListN.{length}
use borrow.Author.Rules.{rules}
use Rattle.answer.specs.Order.{Check, in_order}
use Rattle.frame.specs.Answer.{frame_widths, clock_of}
use Rattle.frame.specs.declared.Frame.{Frame}
use Rattle.frame.specs.declared.Layout.TheVariants as layout
use Rattle.frame.specs.Widths.{outside}
use Rattle.frame.proofs.WidthLaws.{told-within}
use Rattle.record_stages.specs.declared.Asked.TheVariants.{Same}
use Rattle.record_stages.specs.Stages.{asked_of}
use Rattle.record_stages.proofs.StageLaws.{read5, read6, read7, read8, read-on, last-wrong, last-fine, told-refused, told-granted}
use Rattle.record_stages.proofs.HeadLaws.{head-is}
use Rattle.record_generals.specs.declared.Staged.{Staged}
use Rattle.record_generals.specs.declared.Staged.TheVariants as staged
use Rattle.record_generals.specs.declared.GeneralHead.{GeneralHead}
use Rattle.record_generals.specs.Generals.{other_system, head_widths, head_meant, head_in, delay_width, delay_in, too_short, staged_by}
use Rattle.record_generals.proofs.StagedLaws.{head-there}
use Rattle.record_generals.proofs.stages.staged_of.Goals as goal
use Rattle.answer.specs.Table.{granted}

-- the checks of 8 and 23, and the answer
abbrev eight : Frame → Bool
eight f = too_short f.header.kind f.n

abbrev last : Frame → List Check
last f = (other_system (head_in f).system, 23) ∷ []

abbrev found : Frame → Staged
found f = staged.List (delay_in f)

pub returns-in_default : goal.returns-in_default
returns-in_default c =
    let f = c.args.frame in
    read5 layout.General f (eight f) (last f) staged.Refused (found f) (sym c.in_default.is ∙ c.frame_widths.ensures)

pub returns-in_default-asked_of : goal.returns-in_default-asked_of
returns-in_default-asked_of c =
    let within : granted ≡ frame_widths c.args.frame = sym c.in-Ok.is ∙ c.frame_widths.ensures in
    let f = c.args.frame in
    read6 layout.General f (eight f) (last f) staged.Refused (found f) within (sym c.in_default-asked_of.is ∙ c.asked_of.ensures)

pub returns-in_default-clock_of : goal.returns-in_default-clock_of
returns-in_default-clock_of c =
    let within : granted ≡ frame_widths c.args.frame = sym c.in-Ok.is ∙ c.frame_widths.ensures in
    let same : Same ≡ asked_of layout.General c.args.frame.header.kind = sym c.in-Same.is ∙ c.asked_of.ensures in
    let f = c.args.frame in
    read7 layout.General f (eight f) (last f) staged.Refused (found f)
    within same (sym c.in_default-clock_of.is ∙ c.clock_of.ensures)

pub returns-in_default-list_size : goal.returns-in_default-list_size
returns-in_default-list_size c =
    let within : granted ≡ frame_widths c.args.frame = sym c.in-Ok.is ∙ c.frame_widths.ensures in
    let same : Same ≡ asked_of layout.General c.args.frame.header.kind = sym c.in-Same.is ∙ c.asked_of.ensures in
    let hour : granted ≡ clock_of c.args.frame.header.z = sym c.in-Ok-clock_of.is ∙ c.clock_of.ensures in
    let f = c.args.frame in
    read8 layout.General f (eight f) (last f) staged.Refused (found f) within same hour
    (told-refused 8 _ (sym c.in_default-list_size.is ∙ c.list_size.ensures))

pub returns-in_default-known_of : goal.returns-in_default-known_of
returns-in_default-known_of c =
    let within : granted ≡ frame_widths c.args.frame = sym c.in-Ok.is ∙ c.frame_widths.ensures in
    let right : eight c.args.frame ≡ false = told-granted 8 _ (sym c.in-Ok-list_size.is ∙ c.list_size.ensures) in
    let full : length c.args.frame.words ≡ 31 = search rules in
    let is : c.head_from-head.result ≡ head_in c.args.frame = let f = c.args.frame in
    c.head_from-head.ensures
    ∙ ap head_meant
    (head-is head_widths f (told-within (outside f) within) full (head-there f.header.kind f.n right)) in
    let same : Same ≡ asked_of layout.General c.args.frame.header.kind = sym c.in-Same.is ∙ c.asked_of.ensures in
    let hour : granted ≡ clock_of c.args.frame.header.z = sym c.in-Ok-clock_of.is ∙ c.clock_of.ensures in
    let last-decides : (r : Staged) → let f = c.args.frame in
    r ≡ in_order (last f) staged.Refused (found f) → r ≡ staged_by f = λ r e. let f = c.args.frame in
    e ∙ read-on layout.General f (eight f) (last f) staged.Refused (found f) within same hour right in
    let f = c.args.frame in
    last-decides (staged.Refused 23)
    (last-wrong staged.Refused (found f) (other_system (head_in f).system) 23
    (ap (λ (a : GeneralHead). other_system a.system) (sym is) ∙ told-refused 23 _ (sym c.in_default-known_of.is ∙ c.known_of.ensures)))

pub returns : goal.returns
returns c =
    let within : granted ≡ frame_widths c.args.frame = sym c.in-Ok.is ∙ c.frame_widths.ensures in
    let right : eight c.args.frame ≡ false = told-granted 8 _ (sym c.in-Ok-list_size.is ∙ c.list_size.ensures) in
    let full : length c.args.frame.words ≡ 31 = search rules in
    let is : c.head_from-head.result ≡ head_in c.args.frame = let f = c.args.frame in
    c.head_from-head.ensures
    ∙ ap head_meant
    (head-is head_widths f (told-within (outside f) within) full (head-there f.header.kind f.n right)) in
    let same : Same ≡ asked_of layout.General c.args.frame.header.kind = sym c.in-Same.is ∙ c.asked_of.ensures in
    let hour : granted ≡ clock_of c.args.frame.header.z = sym c.in-Ok-clock_of.is ∙ c.clock_of.ensures in
    let last-decides : (r : Staged) → let f = c.args.frame in
    r ≡ in_order (last f) staged.Refused (found f) → r ≡ staged_by f = λ r e. let f = c.args.frame in
    e ∙ read-on layout.General f (eight f) (last f) staged.Refused (found f) within same hour right in
    let f = c.args.frame in
    last-decides (staged.List c.delay_width.result)
    (ap staged.List (c.delay_width.ensures.0 ∙ ap (λ (a : GeneralHead). delay_width a.ionosphere) is)
    ∙ last-fine staged.Refused (found f) (other_system (head_in f).system) 23
    (ap (λ (a : GeneralHead). other_system a.system) (sym is) ∙ told-granted 23 _ (sym c.in-Ok-known_of.is ∙ c.known_of.ensures)))
