-- `candidate_at` meets its contract: each count as it is read. Assumes nothing.
use Rattle.rtcm2_state.proofs.StateLaws.{read-counts}
use Rattle.rtcm2_state.proofs.candidate_at.Goals as goal

pub returns : goal.returns
returns c =
    read-counts c.args.bytes.now c.number_at-end.ensures c.number_at-held.ensures
    c.number_at-words.ensures c.number_at-at.ensures c.number_at-waits.ensures c.number_at-odd.ensures c.number_at-even.ensures
