-- `ended_at` meets its contract: the seventh number is 1. Assumes nothing.
use mathlib.Core.Path.{sym, ap, ◌∙◌}
use native.Mathlib.Omega.{arith}
use lib.Dec.{eqb}
use Rattle.rtcm2_state.specs.State.{state_count, reader_of}
use Rattle.rtcm2_state.proofs.NumberLaws.{number-of}
use Rattle.rtcm2_state.proofs.ended_at.Goals as goal

pub returns : goal.returns
unfolding reader_of
returns c = ap (λ n. eqb n 1) (c.number_at.ensures ∙ sym (number-of state_count 6 c.args.bytes.now (omega arith)))
