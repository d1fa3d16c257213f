-- `make_corrections` meets its contract: a frame of the rows is the layout's. Assumes nothing.
use mathlib.Core.Path.{refl, ap, ◌∙◌}
use mathlib.Core.List.{map}
use native.Mathlib.Omega.{arith}
use lib.ListN.{take}
use borrow.Author.Rules.{rules}
use Rattle.frame.specs.declared.Layout.TheVariants as layout
use Rattle.frame.specs.Layout.{system_of}
use Rattle.record_fields.specs.Tables.{no_rows, put_rows}
use Rattle.record_fields.proofs.TableLaws.{push-codes}
use Rattle.record_stages.proofs.ListLaws.{entries-made}
use Rattle.record_corrections.specs.Corrections.{widths, coding, fill, least, most, numbers, out_of_range, make_corrections}
use Rattle.record_corrections.proofs.make_corrections.Goals as goal

pub returns : goal.returns
unfolding make_corrections
returns c =
    let a = c.args in
    let s = system_of a.header.kind in
    entries-made layout.Correction (coding s) fill 18 (out_of_range s) (numbers s) least (most s)
    (λ e. push-codes widths (numbers s e)) (λ e. refl) (search rules) (omega arith)
    a.header a.entries a.count c.rows_of-rows.result c.make_frame.result c.make_frame.ensures
    (c.rows_of-rows.ensures
    ∙ ap (λ u. put_rows widths least (most u) (map (numbers u) (take a.count a.entries)) no_rows) c.system_of-system.ensures)
