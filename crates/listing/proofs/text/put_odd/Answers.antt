-- `put_odd` meets its contract: two totals with their labels, and a newline. Assumes nothing.
use Rattle.std.proofs.Common.{arith}
use Rattle.listing.proofs.TextLaws.{odd_place, odd-stored, odd-length}
use Rattle.listing.proofs.text.put_odd.Goals as goal

pub shape_of-buffer : goal.shape_of-buffer
shape_of-buffer c =
    let a = c.args in
    odd-length a.odd a.even a.place a.buffer.now _ _ _ _ c.put_total-first.ensures.value.0 c.put_total-first.ensures.buffer_after c.put_total-second.ensures.value.0 c.put_total-second.ensures.buffer_after

pub returns : goal.returns
returns c =
    let a = c.args in
    let buffer = a.buffer.now in
    let place = odd_place a.odd a.even a.place buffer _ _ _ _ c.put_total-first.ensures.value.0 c.put_total-first.ensures.buffer_after c.put_total-second.ensures.value.0 c.put_total-second.ensures.buffer_after in
    let stored = odd-stored a.odd a.even a.place buffer _ _ _ _ c.put_total-first.ensures.value.0 c.put_total-first.ensures.buffer_after c.put_total-second.ensures.value.0 c.put_total-second.ensures.buffer_after in
    record { value = (place, omega (arith, c.put_total-first.ensures.value.1, c.put_total-second.ensures.value.1)); buffer_after = stored }
