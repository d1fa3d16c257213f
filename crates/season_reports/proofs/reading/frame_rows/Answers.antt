-- `frame_rows` meets its contract: by whether its entries can be counted. Assumes nothing.
use mathlib.Core.Path.{◌≡◌, sym, ap, ◌∙◌}
use mathlib.Core.List.{map}
use native.Mathlib.Omega.{arith}
use Rattle.record_corrections.specs.Corrections.{count_corrections}
use Rattle.record_stages.specs.declared.Count.TheVariants.{Of}
use Rattle.season_reports.specs.Season.{entry_row}
use Rattle.season_reports.proofs.JournalLaws.{count-few, entries-refused}
use Rattle.season_reports.proofs.reading.frame_rows.Goals as goal

pub rows_of-requires : goal.rows_of-requires
rows_of-requires c =
    let count-is : count_corrections c.args.frame ≡ Of c.in-Of.count = sym c.count_corrections-counted.ensures ∙ c.in-Of.is in
    (count-few c.args.frame c.in-Of.count count-is, count-is)

pub returns-in-Of : goal.returns-in-Of
returns-in-Of c = record { count_bound = c.rows_of.ensures.count_bound; each = c.rows_of.ensures.each }

pub returns-in-Refused : goal.returns-in-Refused
returns-in-Refused c =
    record { count_bound = (omega arith, sym (ap (map entry_row) (entries-refused c.args.frame _ (sym c.count_corrections-counted.ensures ∙ c.in-Refused.is)))); each = tt }
