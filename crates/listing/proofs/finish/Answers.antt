-- `finish` meets its contract: 5, 3, 2, 13, then the lines that the end released and the two lines of totals. Assumes nothing.
use Rattle.std.proofs.Common.{[], length, ◌∙◌, arith}
use Rattle.printing.proofs.StoreLaws.{length-stored}
use Rattle.listing.specs.Listing.{lines_of, total_lines}
use Rattle.listing.proofs.CallLaws.{nothing, finish-refused, finish-short, finish-done}
use Rattle.listing.proofs.finish.Goals as goal

pub returns-in-Refused : goal.returns-in-Refused
returns-in-Refused c =
    let a = c.args in
    let e = finish-refused a.listing a.output.now _ c.end-ended.ensures _ c.in-Refused.is _ c.refusal.ensures in
    record { value = e.0; output_after = e.1; written_in_bounds = (nothing a.listing _ _ c.refusal.ensures 0 (length a.output.now)).1 }

pub returns-then-output-lt-END_ROOM : goal.returns-then-output-lt-END_ROOM
returns-then-output-lt-END_ROOM c =
    let a = c.args in
    let e = finish-short a.listing a.output.now _ c.end-ended.ensures c.in_default.is c.if-output-lt-END_ROOM.true
    _ c.refusal-then-output-lt-END_ROOM.ensures in
    record { value = e.0; output_after = e.1; written_in_bounds = (nothing a.listing _ _ c.refusal-then-output-lt-END_ROOM.ensures 0 (length a.output.now)).1 }

pub returns : goal.returns
returns c =
    let room = c.if-output-lt-END_ROOM.false in
    let a = c.args in
    let x = lines_of 16 c.ended_on.result [] in
    let end = c.put_lines-lined.result.listing in
    let same =
    length-stored _ c.put_lines-lined.result.written (total_lines end) _ c.put_totals-written.ensures.output_after
    ∙ length-stored a.output.now 0 x.text _ c.put_lines-lined.ensures.output_after in
    let w = finish-done a.listing a.output.now _ c.end-ended.ensures c.in_default.is room _ c.ended_on.ensures
    _ c.put_lines-lined.ensures.value _ c.put_lines-lined.ensures.output_after _ c.put_totals-written.ensures.value.0 _ c.put_totals-written.ensures.output_after in
    record { value = w.0; output_after = w.1; written_in_bounds = omega (arith, c.put_lines-lined.ensures.used_in_bounds.1, c.put_totals-written.ensures.value.1, room, same) }
