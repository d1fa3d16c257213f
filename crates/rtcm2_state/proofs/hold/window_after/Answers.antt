-- `window_after` meets its contract: the pair of cells cut at the bit. Assumes nothing.
use mathlib.Core.Path.{◌∙◌}
use native.Mathlib.Omega.{arith}
use lib.ListN.{drop}
use Rattle.reader.specs.Cells.{put_cells}
use Rattle.reader.proofs.Buffer.{number-window}
use Rattle.reader.proofs.Pushing.{length-puts}
use Rattle.rtcm2_state.specs.Numbers.{numbers_in}
use Rattle.rtcm2_state.specs.State.{start_size}
use Rattle.rtcm2_state.proofs.NumberLaws.{length-numbers}
use Rattle.rtcm2_state.proofs.hold.window_after.Goals as goal

pub returns : goal.returns
returns c =
    let a = c.args in
    let cells = numbers_in 40 (drop start_size a.bytes.now) in
    rw c.pair_after.ensures
    (number-window (put_cells cells a.end a.six) a.bit (length-puts cells a.end a.six ∙ length-numbers 40 (drop start_size a.bytes.now))
    (omega (arith, c.requires.1, c.requires.2)))
