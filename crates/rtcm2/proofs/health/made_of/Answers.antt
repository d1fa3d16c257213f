-- `made_of` meets its contract: the numbers of the rows are those of the entries that the bytes say. Assumes nothing.
use mathlib.Core.Path.{refl, sym, ap, ◌∙◌}
use native.Mathlib.Omega.{arith}
use lib.ListN.{length}
use borrow.Author.Rules.{rules}
use Rattle.frame.specs.declared.Layout.TheVariants as layout
use Rattle.frame.specs.Layout.{system_of}
use Rattle.record_fields.specs.Tables.{no_rows, put_rows}
use Rattle.record_fields.proofs.TableLaws.{push-codes}
use Rattle.record_stages.specs.Stages.{made_by}
use Rattle.record_stages.proofs.ListLaws.{entries-made}
use Rattle.record_healths.specs.Healths as health
use Rattle.rtcm2_rows.specs.Rows.{row_size, count_of, entries_from}
use Rattle.rtcm2_rows.proofs.TableRows.{table-rows}
use Rattle.rtcm2.specs.Healths.{sizes, meant, numbers, row}
use Rattle.rtcm2.proofs.HealthRows.{numbers-said}
use Rattle.rtcm2.proofs.health.made_of.Goals as goal

pub returns : goal.returns
unfolding health.make_healths
returns c =
    let a = c.args in
    let s = system_of a.header.kind in
    let bs = a.healths.now in
    let count = count_of (row_size (row s)) (length bs) in
    entries-made layout.Health (health.coding s) health.fill 31 (health.out_of_range s) (health.numbers s) health.least health.most
    (λ e. push-codes health.widths (health.numbers s e)) (λ e. refl) (search rules) (omega arith)
    a.header (entries_from (row s) 31 bs) count c.rows_in-rows.result c.make_frame.result
    (c.make_frame.ensures ∙ ap (λ k. made_by layout.Health 31 health.fill a.header k c.rows_in-rows.result) c.count_of-count.ensures)
    (c.rows_in-rows.ensures
    ∙ ap (λ l. put_rows health.widths health.least health.most l no_rows)
    (sym (table-rows sizes (meant s) numbers (health.numbers s) (numbers-said s) 31 count bs)))
