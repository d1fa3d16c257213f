-- `put_nine` meets its contract: the counts, then the counters behind them. Assumes nothing.
use Rattle.rtcm2_state.proofs.StateLaws.{put-nine}
use Rattle.rtcm2_state.proofs.put_nine.Goals as goal

pub returns : goal.returns
returns c =
    let a = c.args in
    put-nine a.c a.ended a.bytes.now c.put_counts.ensures c.put_tally.ensures
