-- `usable_row` meets its contract: the distance is its own least, largest and sum. Assumes nothing.
use mathlib.Core.Path.{sym, subst}
use native.Mathlib.Omega.{arith}
use Rattle.season_reports.specs.Tables.{SoundRow}
use Rattle.season_reports.proofs.RowCode.{wide_fits}
use Rattle.season_reports.proofs.ReadingLaws.{usable-sound, usable-is}
use Rattle.season_reports.proofs.reading.usable_row.Goals as goal

pub overflow_cast-result : goal.overflow_cast-result
overflow_cast-result c = wide_fits 0 c.args.mm (omega arith) c.ranges.mm

pub returns : goal.returns
returns c =
    let e = usable-is c.args.key c.args.mm c.ranges.mm in
    record { value = e; sound_row = subst SoundRow (sym e) (usable-sound c.args.key (omega arith) (omega arith) c.args.mm c.ranges.mm.sfits) }
