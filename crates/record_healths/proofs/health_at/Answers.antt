-- `health_at` meets its contract: the stages that every list shares, then the fields of the entry. Assumes nothing.
use mathlib.Core.Path.{◌≡◌, refl, ap, ◌∙◌}
use mathlib.Core.Bool.{false}
use lib.ListN.{length}
use borrow.Author.Rules.{rules}
use Rattle.bits.specs.Fields.{fields_at}
use Rattle.bits.specs.Rows.{data_bits}
use Rattle.frame.specs.declared.Layout.TheVariants as layout
use Rattle.frame.specs.Layout.{system_of}
use Rattle.record_stages.proofs.ListLaws.{entry-refused, entry_read_lem, placed-room}
use Rattle.record_healths.specs.Healths.{widths, meant, coding, health_at}
use Rattle.record_healths.specs.declared.HealthRead.TheVariants as read
use Rattle.record_healths.proofs.health_at.Goals as goal

pub entry_from-requires : goal.entry_from-requires
entry_from-requires c =
    let a = c.args in
    placed-room layout.Health 0 24 a.frame a.index c.entry_place-place.result c.entry_place-place.ensures _ c.in-At.is

pub returns-in-At : goal.returns-in-At
unfolding health_at
returns-in-At c =
    let full : length c.args.frame.words ≡ 31 = search rules in
    let a = c.args in
    let s = system_of a.frame.header.kind in
    let o = c.in-At.at in
    entry_read_lem layout.Health (coding s) (λ e. false) read.Refused read.Entry a.frame a.index c.entry_place-place.result c.entry_place-place.ensures _
    c.in-At.is full _
    (c.entry_from.ensures ∙ ap (λ u. meant u (fields_at widths o (data_bits a.frame.words))) c.system_of-system.ensures) refl

pub returns-in-Refused : goal.returns-in-Refused
unfolding health_at
returns-in-Refused c =
    let a = c.args in
    entry-refused layout.Health (coding (system_of a.frame.header.kind)) (λ e. false) read.Refused read.Entry a.frame a.index
    c.entry_place-place.result c.entry_place-place.ensures _ c.in-Refused.is
