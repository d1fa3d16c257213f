-- `put_line` meets its contract: 5, 13, then the line. Assumes nothing.
use Rattle.std.proofs.Common.{◌≡◌, false, sym, ◌∙◌, rules}
use Rattle.frame.specs.Widths.{outside}
use Rattle.frame.proofs.WidthLaws.{told-within}
use Rattle.frame.proofs.FrameLaws.{header-within, pair-within}
use Rattle.frame.proofs.WidthLaws.{to_inside}
use Rattle.listing.specs.Listing.{line_put, line_to}
use Rattle.listing.proofs.put_line.Goals as goal

pub returns-in_err-frame_widths : goal.returns-in_err-frame_widths
unfolding line_put line_to
returns-in_err-frame_widths c = search rules

pub returns-then-output-lt-LINE_ROOM : goal.returns-then-output-lt-LINE_ROOM
unfolding line_put line_to
returns-then-output-lt-LINE_ROOM c = search rules

pub put_frame-end-requires : goal.put_frame-end-requires
put_frame-end-requires c =
    let within : outside c.args.frame ≡ false = told-within _ (sym c.in_ok-frame_widths.was ∙ c.frame_widths.ensures) in
    let f = c.args.frame in
    ((to_inside f.header (header-within f within)).state, pair-within f within, c.if-output-lt-LINE_ROOM.false)

pub returns : goal.returns
unfolding line_put line_to
returns c = search rules
