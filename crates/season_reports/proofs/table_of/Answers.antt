-- `table_of` meets its contract: the rows go into a table without rows. Assumes nothing.
use mathlib.Core.Path.{◌≡◌, sym, ap, subst, ◌∙◌}
use mathlib.Core.Bool.{false}
use Rattle.season_reports.specs.Reports.{rows_in}
use Rattle.season_reports.specs.Tables.{with_rows, no_table, SoundTable}
use Rattle.season_reports.specs.declared.table.Table.{Table}
use Rattle.season_reports.proofs.SoundLaws.{none-sound}
use Rattle.season_reports.proofs.table_of.Goals as goal

pub add_rows-requires : goal.add_rows-requires
unfolding no_table
add_rows-requires c =
    let start_is : ◌≡◌ {A = Table} (record { report = c.empty.result; over = false; full = false }) no_table = ap (λ r. record { report = r; over = false; full = false }) c.empty.ensures in
    record { sound_table = subst SoundTable (sym start_is) none-sound; used_bound = c.requires }

pub returns : goal.returns
unfolding no_table
returns c =
    let start_is : ◌≡◌ {A = Table} (record { report = c.empty.result; over = false; full = false }) no_table = ap (λ r. record { report = r; over = false; full = false }) c.empty.ensures in
    c.add_rows.ensures ∙ ap (λ t. with_rows t (rows_in c.args.report)) start_is
