-- `head_rows` meets its contract: one row, the first. Assumes nothing.
use mathlib.Core.Path.{ap, ◌∙◌}
use Rattle.record_fields.specs.Tables.{put_row}
use Rattle.record_observations.specs.Observations.{epoch_widths, epoch_least, epoch_most, epoch_numbers}
use Rattle.record_observations.proofs.rows.head_rows.Goals as goal

pub returns : goal.returns
returns c = c.put_row.ensures ∙ ap (put_row epoch_widths epoch_least epoch_most (epoch_numbers _)) c.no_rows.ensures
