-- `empty` meets its contract: blank rows alone. Assumes nothing.
use mathlib.Core.Path.{ap}
use lib.ListN.{replicate}
use Rattle.season_reports.specs.Reports.{report_with}
use Rattle.season_reports.specs.declared.Report.{Report}
use Rattle.season_reports.specs.declared.Row.{Row}
use Rattle.season_reports.proofs.empty.Goals as goal

blanks : Row → Report
blanks r = record { used = 0; rows = replicate 512 r }

pub returns : goal.returns
unfolding report_with blanks
returns c = ap blanks c.blank_row.ensures
