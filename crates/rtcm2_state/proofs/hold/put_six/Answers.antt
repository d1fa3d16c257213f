-- `put_six` meets its contract: six numbers, one after the other. Assumes nothing.
use Rattle.rtcm2_state.specs.Holding.{six_put}
use Rattle.rtcm2_state.proofs.hold.put_six.Goals as goal

pub returns : goal.returns
unfolding six_put
returns c =
    rw (
      c.put_number-6.ensures,
      c.put_number-5.ensures,
      c.put_number-4.ensures,
      c.put_number-3.ensures,
      c.put_number-2.ensures,
      c.put_number.ensures,
      c.with_six-both.ensures,
      c.number_at.ensures,
    )
