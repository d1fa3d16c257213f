-- `read_epoch` meets its contract: the stages that every list shares, then the head and its time. Assumes nothing.
use mathlib.Core.Path.{◌≡◌, sym, ap, ◌∙◌}
use mathlib.Core.List.{List, [], ◌∷◌}
use lib.ListN.{length}
use borrow.Author.Rules.{rules}
use Rattle.answer.specs.Order.{Check}
use Rattle.frame.specs.declared.Layout.TheVariants as layout
use Rattle.frame.specs.declared.Frame.{Frame}
use Rattle.record_stages.proofs.HeadLaws.{not-counted, counted-on, counted-inside, counted-head, head-is}
use Rattle.record_stages.proofs.StageLaws.{told-refused, told-granted, last-wrong, last-fine}
use Rattle.record_observations.specs.declared.EpochRead.TheVariants as epoch
use Rattle.record_observations.specs.Observations.{epoch_widths, epoch_meant, epoch_in, late_time, read_epoch}
use Rattle.record_observations.proofs.read_epoch.Goals as goal

-- the check of 10
abbrev last : Frame → List Check
last g = (late_time (epoch_in g), 10) ∷ []

pub returns-in_default : goal.returns-in_default
unfolding read_epoch
returns-in_default c =
    let full : length c.args.frame.words ≡ 31 = search rules in
    let is : c.epoch_from-epoch.result ≡ epoch_in c.args.frame = let g = c.args.frame in
    c.epoch_from-epoch.ensures
    ∙ ap epoch_meant (head-is epoch_widths g
    (counted-inside layout.Observation 24 48 g c.count_in-counted.result c.count_in-counted.ensures _ c.in-Of.is)
    full (counted-head layout.Observation 24 48 g c.count_in-counted.result c.count_in-counted.ensures _ c.in-Of.is)) in
    let g = c.args.frame in
    last-wrong epoch.Refused (epoch.At (epoch_in g)) (late_time (epoch_in g)) 10
    (ap late_time (sym is) ∙ told-refused 10 _ (sym c.in_default.is ∙ c.time_of.ensures))
    ∙ counted-on layout.Observation 24 48 g c.count_in-counted.result c.count_in-counted.ensures (last g) epoch.Refused (epoch.At (epoch_in g)) _
    c.in-Of.is

pub returns-in-Ok : goal.returns-in-Ok
unfolding read_epoch
returns-in-Ok c =
    let full : length c.args.frame.words ≡ 31 = search rules in
    let is : c.epoch_from-epoch.result ≡ epoch_in c.args.frame = let g = c.args.frame in
    c.epoch_from-epoch.ensures
    ∙ ap epoch_meant (head-is epoch_widths g
    (counted-inside layout.Observation 24 48 g c.count_in-counted.result c.count_in-counted.ensures _ c.in-Of.is)
    full (counted-head layout.Observation 24 48 g c.count_in-counted.result c.count_in-counted.ensures _ c.in-Of.is)) in
    let g = c.args.frame in
    ap epoch.At is
    ∙ last-fine epoch.Refused (epoch.At (epoch_in g)) (late_time (epoch_in g)) 10
    (ap late_time (sym is) ∙ told-granted 10 _ (sym c.in-Ok.is ∙ c.time_of.ensures))
    ∙ counted-on layout.Observation 24 48 g c.count_in-counted.result c.count_in-counted.ensures (last g) epoch.Refused (epoch.At (epoch_in g)) _
    c.in-Of.is

pub returns-in-Refused : goal.returns-in-Refused
unfolding read_epoch
returns-in-Refused c =
    let g = c.args.frame in
    not-counted layout.Observation 24 48 g c.count_in-counted.result c.count_in-counted.ensures (last g) epoch.Refused (epoch.At (epoch_in g)) _
    c.in-Refused.is
