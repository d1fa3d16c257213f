-- `blank_row` meets its contract. Assumes nothing.
use mathlib.Core.Path.{refl}
use Rattle.season_reports.proofs.rows.blank_row.Goals as goal

pub returns : goal.returns
returns c = refl
