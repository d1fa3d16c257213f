-- `rtcm2_start` meets its contract: too few bytes, or the state of a fresh reader. Assumes nothing.
use mathlib.Core.Path.{ap, ◌∙◌}
use Rattle.rtcm2_state.specs.State.{state_put}
use Rattle.rtcm2.proofs.LineLaws.{number-refused, number-answered, left_alone, left-put, start-short, start-done}
use Rattle.rtcm2.proofs.listening.rtcm2_start.Goals as goal

pub returns-then-state-lt-SIZE : goal.returns-then-state-lt-SIZE
returns-then-state-lt-SIZE c =
    let state = c.args.state.now in
    let e = start-short state c.if-state-lt-SIZE.true in
    record { value = number-refused e; state_after = left_alone (λ r. state_put r state) state e }

pub returns : goal.returns
returns c =
    let state = c.args.state.now in
    let e = start-done state c.if-state-lt-SIZE.false in
    record { value = number-answered e; state_after = left-put (λ r. state_put r state) state e (c.put_state.ensures.bytes_after ∙ ap (λ r. state_put r state) c.new.ensures) }
