-- `rtcm2_end` meets its contract: no state held, the reader's refusal, or the state that is left. Assumes nothing.
use mathlib.Core.Path.{◌≡◌, sym, ap, ◌∙◌}
use mathlib.Core.Bool.{true}
use Rattle.reader.specs.Reading.{ended_by}
use Rattle.reader.specs.declared.Next.{Next}
use Rattle.rtcm2_state.specs.State.{holds_state, state_in, start_put}
use Rattle.rtcm2.specs.Line.{ended_in}
use Rattle.rtcm2.proofs.LineLaws.{number-refused, number-answered, left_alone, left-put, read_none, read-refused, read_done}
use Rattle.rtcm2.proofs.listening.rtcm2_end.Goals as goal

pub returns-then-not-holds_state : goal.returns-then-not-holds_state
unfolding ended_in
returns-then-not-holds_state c =
    let a = c.args in
    let state = a.state.now in
    let e = read_none (λ (n : Next). n.answer) ended_by state (sym c.holds_state.ensures ∙ c.if-not-holds_state.true) in
    record { value = number-refused e; state_after = left_alone (λ (n : Next). start_put n.reader.candidate n.reader.ended state) state e }

pub returns-in-Refused : goal.returns-in-Refused
unfolding ended_in
returns-in-Refused c =
    let held : holds_state c.args.state.now ≡ true = sym c.holds_state.ensures ∙ c.if-not-holds_state.false in
    let called : c.end-next.result
    ≡ ended_by (state_in c.args.state.now) = c.end-next.ensures ∙ ap ended_by c.state_in.ensures in
    let a = c.args in
    let state = a.state.now in
    let e = read-refused (λ (n : Next). n.answer) ended_by state held called c.in-Refused.is in
    record { value = number-refused e; state_after = left_alone (λ (n : Next). start_put n.reader.candidate n.reader.ended state) state e }

pub returns : goal.returns
unfolding ended_in
returns c =
    let held : holds_state c.args.state.now ≡ true = sym c.holds_state.ensures ∙ c.if-not-holds_state.false in
    let called : c.end-next.result
    ≡ ended_by (state_in c.args.state.now) = c.end-next.ensures ∙ ap ended_by c.state_in.ensures in
    let a = c.args in
    let state = a.state.now in
    let e = read_done (λ (n : Next). n.answer) ended_by state held called c.in_default.is in
    record { value = number-answered e; state_after = left-put (λ (n : Next). start_put n.reader.candidate n.reader.ended state) state e c.put_start.ensures.bytes_after }
