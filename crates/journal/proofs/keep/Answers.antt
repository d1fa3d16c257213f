-- `keep` meets its contract: 5 for a frame outside its widths, else as putting. Assumes nothing.
use mathlib.Core.Path.{◌≡◌, sym, ◌∙◌}
use mathlib.Core.Bool.{false}
use Rattle.frame.specs.Widths.{outside}
use Rattle.frame.proofs.WidthLaws.{told-within}
use Rattle.journal.proofs.PutLaws.{keep-within}
use Rattle.journal.proofs.keep.Goals as goal

pub returns : goal.returns
returns c =
    let within : outside c.args.frame ≡ false = told-within (outside c.args.frame) (sym c.in-Ok.is ∙ c.frame_widths.ensures) in
    let a = c.args in
    let e = keep-within a.frame a.buffer.now within in
    record { value = c.put_frame.ensures.value ∙ e.0; buffer_after = c.put_frame.ensures.buffer_after ∙ e.1 }
