-- `entry_row` meets its contract: by either number's stop, then by what PRC is in mm. Assumes nothing.
use mathlib.Core.Path.{◌≡◌, sym, ap, ap₂, ◌∙◌}
use mathlib.Core.Bool.{false}
use borrow.Author.Rules.{rules}
use mir.Syntax.{w8, w16, w32}
use mir.ValLaws.{to_z-of_z}
use Rattle.record_values.specs.Values.{exactly, stops_use}
use Rattle.record_values.specs.Answer.{prc_mm}
use Rattle.season_reports.specs.Season.{reading_row}
use Rattle.season_reports.proofs.ReadingLaws.{stops-reading, mm-reading, stop-reading, never-refused}
use Rattle.season_reports.proofs.reading.entry_row.Goals as goal

pub returns-then-stops : goal.returns-then-stops
returns-then-stops c =
    let stops-is : let e = c.args.e in c.stops.result ≡ stops_use e.prc e.rrc = let e = c.args.e in
    c.stops.ensures
    ∙ ap₂ stops_use (to_z-of_z w16 e.prc (search rules))
    (to_z-of_z w8 e.rrc (search rules)) in
    record { value = c.stop_row.ensures.value ∙ ap (reading_row c.args.key) (sym (stops-reading c.args.e (sym stops-is ∙ c.if-stops.true))); sound_row = c.stop_row.ensures.sound_row }

pub returns-in-Millimetres : goal.returns-in-Millimetres
returns-in-Millimetres c =
    let mm-is : let e = c.args.e in c.prc_mm-distance.result ≡ prc_mm e.scale e.prc = let e = c.args.e in
    c.prc_mm-distance.ensures ∙ ap (prc_mm e.scale) (to_z-of_z w16 e.prc (search rules)) in
    let stops-is : let e = c.args.e in c.stops.result ≡ stops_use e.prc e.rrc = let e = c.args.e in
    c.stops.ensures
    ∙ ap₂ stops_use (to_z-of_z w16 e.prc (search rules))
    (to_z-of_z w8 e.rrc (search rules)) in
    let free : let e = c.args.e in stops_use e.prc e.rrc ≡ false = sym stops-is ∙ c.if-stops.false in
    record {
      value = c.usable_row.ensures.value
          ∙ ap (λ z. reading_row c.args.key (exactly z)) (to_z-of_z w32 c.in-Millimetres.mm (search rules))
          ∙ ap (reading_row c.args.key) (sym (mm-reading c.args.e c.requires free c.in-Millimetres.mm (sym mm-is ∙ c.in-Millimetres.is)));
      sound_row = c.usable_row.ensures.sound_row;
    }

pub returns-in-Stop : goal.returns-in-Stop
returns-in-Stop c =
    let mm-is : let e = c.args.e in c.prc_mm-distance.result ≡ prc_mm e.scale e.prc = let e = c.args.e in
    c.prc_mm-distance.ensures ∙ ap (prc_mm e.scale) (to_z-of_z w16 e.prc (search rules)) in
    let stops-is : let e = c.args.e in c.stops.result ≡ stops_use e.prc e.rrc = let e = c.args.e in
    c.stops.ensures
    ∙ ap₂ stops_use (to_z-of_z w16 e.prc (search rules))
    (to_z-of_z w8 e.rrc (search rules)) in
    let free : let e = c.args.e in stops_use e.prc e.rrc ≡ false = sym stops-is ∙ c.if-stops.false in
    record {
      value = c.stop_row-in-Stop.ensures.value
          ∙ ap (reading_row c.args.key) (sym (stop-reading c.args.e c.requires free (sym mm-is ∙ c.in-Stop.is)));
      sound_row = c.stop_row-in-Stop.ensures.sound_row;
    }

pub returns-in-Refused : goal.returns-in-Refused
returns-in-Refused c =
    let mm-is : let e = c.args.e in c.prc_mm-distance.result ≡ prc_mm e.scale e.prc = let e = c.args.e in
    c.prc_mm-distance.ensures ∙ ap (prc_mm e.scale) (to_z-of_z w16 e.prc (search rules)) in
    let stops-is : let e = c.args.e in c.stops.result ≡ stops_use e.prc e.rrc = let e = c.args.e in
    c.stops.ensures
    ∙ ap₂ stops_use (to_z-of_z w16 e.prc (search rules))
    (to_z-of_z w8 e.rrc (search rules)) in
    let free : let e = c.args.e in stops_use e.prc e.rrc ≡ false = sym stops-is ∙ c.if-stops.false in
    absurd (never-refused c.args.e c.requires free _ (sym mm-is ∙ c.in-Refused.is))
