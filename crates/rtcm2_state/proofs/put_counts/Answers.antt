-- `put_counts` meets its contract: seven numbers, one after the other. Assumes nothing.
use mathlib.Core.Path.{refl, ◌∙◌}
use Rattle.rtcm2_state.proofs.StateLaws.{from-val, put-counts}
use Rattle.rtcm2_state.proofs.put_counts.Goals as goal

pub returns : goal.returns
returns c =
    let a = c.args in
    put-counts a.c a.ended a.bytes.now refl refl (c.from.ensures ∙ from-val a.c.waits) (c.from-2.ensures ∙ from-val a.ended)
    c.put_number.ensures c.put_number-2.ensures c.put_number-3.ensures c.put_number-4.ensures c.put_number-5.ensures
    c.put_number-6.ensures c.put_number-7.ensures
