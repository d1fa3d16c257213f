-- `stop_row` meets its contract. Assumes nothing.
use mathlib.Core.Path.{refl}
use native.Mathlib.Omega.{arith}
use Rattle.season_reports.proofs.ReadingLaws.{stop-sound}
use Rattle.season_reports.proofs.reading.stop_row.Goals as goal

pub returns : goal.returns
returns c = record { value = refl; sound_row = stop-sound c.args.key (omega arith) (omega arith) }
