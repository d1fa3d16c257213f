-- `put_tally` meets its contract: two numbers, one after the other. Assumes nothing.
use mathlib.Core.Path.{refl}
use Rattle.rtcm2_state.proofs.StateLaws.{put-tally}
use Rattle.rtcm2_state.proofs.put_tally.Goals as goal

pub returns : goal.returns
returns c =
    let a = c.args in
    put-tally a.tally a.bytes.now refl refl c.put_number.ensures c.put_number-2.ensures
