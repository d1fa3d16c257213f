-- `make_observations` meets its contract: a frame of the rows behind that of the head is the layout's. Assumes nothing.
use mathlib.Core.Path.{refl, ap, ◌∙◌}
use mathlib.Core.List.{map}
use Prim.Native.Nat.{◌+◌, ◌*◌, ◌≤◌}
use native.Mathlib.Omega.{arith}
use lib.ListN.{length, take}
use Rattle.bits.specs.Fields.{span}
use Rattle.frame.specs.declared.Layout.TheVariants as layout
use Rattle.record_fields.specs.Tables.{no_rows, put_row, put_rows}
use Rattle.record_fields.proofs.TableLaws.{push-codes}
use Rattle.record_stages.proofs.ListLaws.{entries-after}
use Rattle.record_observations.specs.declared.Quantity.{Quantity}
use Rattle.record_observations.specs.declared.Epoch.{Epoch}
use Rattle.record_observations.specs.Editions.{quantity_of}
use Rattle.record_observations.specs.Observations.{widths, coding, least, most, numbers, out_of_range, epoch_bits, epoch_rows, make_observations}
use Rattle.record_observations.proofs.LayoutLaws.{narrow, span-48, head-long, head-held}
use Rattle.record_observations.proofs.make_observations.Goals as goal

-- head and satellites are at most 31 words
few : (a : Epoch) (q : Quantity) → length (epoch_bits a) + 15 * span (widths q) ≤ 744
few a q = omega (arith, head-long a, ap (λ w. 15 * w) (span-48 q))

pub returns : goal.returns
unfolding make_observations put_row no_rows
returns c =
    let a = c.args in
    let q = quantity_of a.header.kind in
    entries-after layout.Observation (coding a.edition q) 0 15 (out_of_range a.edition q) (numbers a.edition q) least (most q)
    (λ o. push-codes (widths q) (numbers a.edition q o)) (λ o. refl) (narrow q) (epoch_rows a.epoch) (epoch_bits a.epoch) (head-held a.epoch)
    (few a.epoch q) a.header a.entries a.count c.rows_of-rows.result c.make_frame.result c.make_frame.ensures
    (c.rows_of-rows.ensures
    ∙ ap (λ u. put_rows (widths u) least (most u) (map (numbers a.edition u) (take a.count a.entries)) (epoch_rows a.epoch))
    c.quantity_of-quantity.ensures)
