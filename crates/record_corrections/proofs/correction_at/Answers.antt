-- `correction_at` meets its contract: the stages that every list shares, then the fields of the entry and their ranges. Assumes nothing.
use mathlib.Core.Path.{◌≡◌, sym, ap, ◌∙◌}
use mathlib.Core.Bool.{Bool, true, false}
use lib.ListN.{length}
use borrow.Author.Rules.{rules}
use Rattle.bits.specs.Fields.{fields_at}
use Rattle.bits.specs.Rows.{data_bits}
use Rattle.frame.specs.declared.Layout.TheVariants as layout
use Rattle.frame.specs.declared.System.{System}
use Rattle.frame.specs.Layout.{system_of}
use Rattle.record_stages.proofs.ListLaws.{entry-refused, entry-out, entry_read_lem, placed-room}
use Rattle.record_stages.proofs.StageLaws.{told-out, told_in}
use Rattle.record_corrections.specs.Corrections.{widths, meant, coding, out_of_range, correction_at}
use Rattle.record_corrections.specs.declared.CorrectionRead.TheVariants as read
use Rattle.record_corrections.proofs.correction_at.Goals as goal

pub entry_from-entry-requires : goal.entry_from-entry-requires
entry_from-entry-requires c =
    let a = c.args in
    placed-room layout.Correction 0 40 a.frame a.index c.entry_place-place.result c.entry_place-place.ensures _ c.in-At.is

pub returns-in_default : goal.returns-in_default
unfolding correction_at
returns-in_default c =
    let full : length c.args.frame.words ≡ 31 = search rules in
    let asked : System = system_of c.args.frame.header.kind in
    let read_is : c.entry_from-entry.result
    ≡ meant asked (fields_at widths c.in-At.at (data_bits c.args.frame.words)) = c.entry_from-entry.ensures
    ∙ ap (λ s. meant s (fields_at widths c.in-At.at (data_bits c.args.frame.words)))
    c.system_of-system.ensures in
    let held_to_lem : (b : Bool) → out_of_range c.system_of-system.result c.entry_from-entry.result ≡ b
    → out_of_range asked c.entry_from-entry.result ≡ b = λ b e. sym (ap (λ s. out_of_range s c.entry_from-entry.result) c.system_of-system.ensures) ∙ e in
    let a = c.args in
    entry-out layout.Correction (coding asked) (out_of_range asked) read.Refused read.Entry a.frame a.index c.entry_place-place.result
    c.entry_place-place.ensures _ c.in-At.is full _ read_is
    (held_to_lem true (told-out _ (sym c.in_default.is ∙ c.range_of.ensures)))

pub returns-in-Inside : goal.returns-in-Inside
unfolding correction_at
returns-in-Inside c =
    let full : length c.args.frame.words ≡ 31 = search rules in
    let asked : System = system_of c.args.frame.header.kind in
    let read_is : c.entry_from-entry.result
    ≡ meant asked (fields_at widths c.in-At.at (data_bits c.args.frame.words)) = c.entry_from-entry.ensures
    ∙ ap (λ s. meant s (fields_at widths c.in-At.at (data_bits c.args.frame.words)))
    c.system_of-system.ensures in
    let held_to_lem : (b : Bool) → out_of_range c.system_of-system.result c.entry_from-entry.result ≡ b
    → out_of_range asked c.entry_from-entry.result ≡ b = λ b e. sym (ap (λ s. out_of_range s c.entry_from-entry.result) c.system_of-system.ensures) ∙ e in
    let a = c.args in
    entry_read_lem layout.Correction (coding asked) (out_of_range asked) read.Refused read.Entry a.frame a.index c.entry_place-place.result
    c.entry_place-place.ensures _ c.in-At.is full _ read_is
    (held_to_lem false (told_in _ (sym c.in-Inside.is ∙ c.range_of.ensures)))

pub returns-in-Refused : goal.returns-in-Refused
unfolding correction_at
returns-in-Refused c =
    let a = c.args in
    let s = system_of a.frame.header.kind in
    entry-refused layout.Correction (coding s) (out_of_range s) read.Refused read.Entry a.frame a.index c.entry_place-place.result
    c.entry_place-place.ensures _ c.in-Refused.is
