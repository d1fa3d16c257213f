-- `list_piece` meets its contract: 5, 3, 13, then the lines. Assumes nothing.
use Rattle.std.proofs.Common.{◌/◌, length, arith}
use Rattle.printing.proofs.StoreLaws.{length-stored}
use Rattle.listing.specs.Listing.{lines_of, line_room}
use Rattle.listing.proofs.CallLaws.{nothing, piece-refused, piece-short, piece-done}
use Rattle.listing.proofs.list_piece.Goals as goal

pub returns-in-Refused : goal.returns-in-Refused
returns-in-Refused c =
    let a = c.args in
    let e = piece-refused a.listing a.input.now a.output.now _ c.readiness-ready.ensures
    _ c.in-Refused.is _ c.refusal.ensures in
    record { value = e.0; output_after = e.1; used_in_bounds = nothing a.listing _ _ c.refusal.ensures (length a.input.now) (length a.output.now) }

pub returns-then-output-lt-LINE_ROOM : goal.returns-then-output-lt-LINE_ROOM
returns-then-output-lt-LINE_ROOM c =
    let a = c.args in
    let e = piece-short a.listing a.input.now a.output.now _ c.readiness-ready.ensures
    c.in_default.is c.if-output-lt-LINE_ROOM.true _ c.refusal-then-output-lt-LINE_ROOM.ensures in
    record { value = e.0; output_after = e.1; used_in_bounds = nothing a.listing _ _ c.refusal-then-output-lt-LINE_ROOM.ensures (length a.input.now) (length a.output.now) }

pub returns : goal.returns
returns c =
    let a = c.args in
    let out = a.output.now in
    let e = piece-done a.listing a.input.now out _ c.readiness-ready.ensures c.in_default.is c.if-output-lt-LINE_ROOM.false
    _ c.put_lines-lined.ensures.value _ c.put_lines-lined.ensures.output_after in
    let same = length-stored out 0 (lines_of (length out / line_room) a.listing a.input.now).text _ c.put_lines-lined.ensures.output_after in
    record { value = e.0; output_after = e.1; used_in_bounds = (c.put_lines-lined.ensures.used_in_bounds.0, omega (arith, c.put_lines-lined.ensures.used_in_bounds.1, same)) }
