-- `observation_at` meets its contract: the stages that every list shares, then the time of the head, then the fields. Assumes nothing.
use mathlib.Core.Path.{◌≡◌, sym, ap, ◌∙◌}
use mathlib.Core.List.{List, [], ◌∷◌}
use lib.ListN.{length}
use borrow.Author.Rules.{rules}
use Rattle.answer.specs.Order.{Check}
use Rattle.bits.specs.Fields.{fields_at}
use Rattle.bits.specs.Rows.{data_bits}
use Rattle.frame.specs.declared.Layout.TheVariants as layout
use Rattle.frame.specs.declared.Frame.{Frame}
use Rattle.record_stages.proofs.ListLaws.{not-placed, placed_on, placed-inside, placed-head, placed-room, placed-is}
use Rattle.record_stages.proofs.HeadLaws.{head-is}
use Rattle.record_stages.proofs.StageLaws.{told-refused, told-granted, last-wrong, last-fine}
use Rattle.record_observations.specs.declared.ObservationRead.TheVariants as read
use Rattle.record_observations.specs.Editions.{quantity_of}
use Rattle.record_observations.specs.Observations.{epoch_widths, epoch_meant, epoch_in, late_time, widths, meant, coding, satellite_in, observation_at}
use Rattle.record_observations.proofs.LayoutLaws.{span-48}
use Rattle.record_observations.proofs.observation_at.Goals as goal

abbrev last : Frame → List Check
last g = (late_time (epoch_in g), 10) ∷ []

pub returns-in_default : goal.returns-in_default
unfolding observation_at
returns-in_default c =
    let full : length c.args.frame.words ≡ 31 = search rules in
    let is : c.epoch_from.result ≡ epoch_in c.args.frame = let a = c.args in
    c.epoch_from.ensures
    ∙ ap epoch_meant
    (head-is epoch_widths a.frame
    (placed-inside layout.Observation 24 48 a.frame a.index c.entry_place-place.result c.entry_place-place.ensures _ c.in-At.is)
    full
    (placed-head layout.Observation 24 48 a.frame a.index c.entry_place-place.result c.entry_place-place.ensures _ c.in-At.is)) in
    let a = c.args in
    last-wrong read.Refused (read.Entry (satellite_in a.edition a.frame a.index)) (late_time (epoch_in a.frame)) 10
    (ap late_time (sym is) ∙ told-refused 10 _ (sym c.in_default.is ∙ c.time_of.ensures))
    ∙ placed_on layout.Observation 24 48 a.frame a.index c.entry_place-place.result c.entry_place-place.ensures (last a.frame) read.Refused
    (read.Entry (satellite_in a.edition a.frame a.index)) _ c.in-At.is

pub entry_from-requires : goal.entry_from-requires
entry_from-requires c =
    let a = c.args in
    placed-room layout.Observation 24 48 a.frame a.index c.entry_place-place.result c.entry_place-place.ensures _ c.in-At.is

pub returns-in-Ok : goal.returns-in-Ok
unfolding observation_at
returns-in-Ok c =
    let full : length c.args.frame.words ≡ 31 = search rules in
    let is : c.epoch_from.result ≡ epoch_in c.args.frame = let a = c.args in
    c.epoch_from.ensures
    ∙ ap epoch_meant
    (head-is epoch_widths a.frame
    (placed-inside layout.Observation 24 48 a.frame a.index c.entry_place-place.result c.entry_place-place.ensures _ c.in-At.is)
    full
    (placed-head layout.Observation 24 48 a.frame a.index c.entry_place-place.result c.entry_place-place.ensures _ c.in-At.is)) in
    let a = c.args in
    let q = quantity_of a.frame.header.kind in
    ap read.Entry
    (c.entry_from.ensures ∙ ap (λ u. meant a.edition u (fields_at (widths u) c.in-At.at (data_bits a.frame.words))) c.quantity_of-quantity.ensures
    ∙ placed-is layout.Observation 24 48 a.frame a.index c.entry_place-place.result c.entry_place-place.ensures _ c.in-At.is
    (coding a.edition q) (span-48 q) full)
    ∙ last-fine read.Refused (read.Entry (satellite_in a.edition a.frame a.index)) (late_time (epoch_in a.frame)) 10
    (ap late_time (sym is) ∙ told-granted 10 _ (sym c.in-Ok.is ∙ c.time_of.ensures))
    ∙ placed_on layout.Observation 24 48 a.frame a.index c.entry_place-place.result c.entry_place-place.ensures (last a.frame) read.Refused
    (read.Entry (satellite_in a.edition a.frame a.index)) _ c.in-At.is

pub returns-in-Refused : goal.returns-in-Refused
unfolding observation_at
returns-in-Refused c =
    let a = c.args in
    not-placed layout.Observation 24 48 a.frame a.index c.entry_place-place.result c.entry_place-place.ensures (last a.frame) read.Refused
    (read.Entry (satellite_in a.edition a.frame a.index)) _ c.in-Refused.is
