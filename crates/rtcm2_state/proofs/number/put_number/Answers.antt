-- `put_number` meets its contract: its four low bytes copied. Assumes nothing.
use mathlib.Core.Path.{◌≡◌, ap, ◌∙◌}
use native.Mathlib.Omega.{arith}
use lib.ListN.{take}
use Rattle.reader.proofs.RowLaws.{put-sets}
use Rattle.rtcm2_state.specs.Numbers.{low_bytes}
use Rattle.rtcm2_state.proofs.NumberLaws.{length-bytes}
use Rattle.rtcm2_state.proofs.StoreLaws.{low-four}
use Rattle.rtcm2_state.proofs.number.put_number.Goals as goal

pub returns : goal.returns
returns c =
    let a = c.args in
    let low : c.copy_from_slice.new.self ≡ low_bytes 4 a.n = c.copy_from_slice.ensures.after ∙ ap (take 4) c.to_le_bytes.ensures ∙ low-four a.n in
    rw low (put-sets a.bytes.now a.at _ (low_bytes 4 a.n) (omega (arith, length-bytes 4 a.n)) (omega (arith, length-bytes 4 a.n)))
