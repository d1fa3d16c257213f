-- `rtcm2_stops` meets its contract: 1 where the two numbers stop the satellite, else 0. Assumes nothing.
use mathlib.Core.Path.{◌≡◌, refl, sym, ap, ap₂, ◌∙◌}
use mir.Syntax.{w8, w16}
use mir.ValLaws.{to_z-of_z}
use Rattle.bits.specs.Bits.{val}
use Rattle.record_values.specs.Values.{stops_use}
use Rattle.rtcm2.proofs.values.rtcm2_stops.Goals as goal

pub returns-then-stops : goal.returns-then-stops
returns-then-stops c =
    let said : c.stops.result ≡ stops_use c.args.prc c.args.rrc = c.stops.ensures ∙ ap₂ stops_use (to_z-of_z w16 c.args.prc c.ranges.prc) (to_z-of_z w8 c.args.rrc c.ranges.rrc) in
    record { value = refl; stop_after = ap val (sym c.if-stops.true ∙ said) }

pub returns : goal.returns
returns c =
    let said : c.stops.result ≡ stops_use c.args.prc c.args.rrc = c.stops.ensures ∙ ap₂ stops_use (to_z-of_z w16 c.args.prc c.ranges.prc) (to_z-of_z w8 c.args.rrc c.ranges.rrc) in
    record { value = refl; stop_after = ap val (sym c.if-stops.false ∙ said) }
