-- `rtcm2_feed` meets its contract: no state held, a byte that needs no hunt, the reader's refusal, or the state that is left. Assumes nothing.
use mathlib.Core.Path.{◌≡◌, refl, sym, ap, ◌∙◌}
use mathlib.Core.Bool.{true, cond}
use Rattle.reader.specs.Reading.{fed_by}
use Rattle.reader.specs.declared.Next.{Next}
use Rattle.rtcm2_state.specs.State.{holds_state, state_in, state_put}
use Rattle.rtcm2_state.proofs.Quiet.{quiet-taken}
use Rattle.rtcm2.specs.Line.{fed_in}
use Rattle.rtcm2.proofs.LineLaws.{number-refused, number-answered, left_alone, left-put, read_none, read-refused, read_done}
use Rattle.rtcm2.proofs.listening.rtcm2_feed.Goals as goal

pub returns-then-not-holds_state : goal.returns-then-not-holds_state
unfolding fed_in
returns-then-not-holds_state c =
    let a = c.args in
    let state = a.state.now in
    let e = read_none (λ (n : Next). n.answer) (λ r. fed_by r a.byte) state (sym c.holds_state.ensures ∙ c.if-not-holds_state.true) in
    record { value = number-refused e; state_after = left_alone (λ (n : Next). state_put n.reader state) state e }

-- a byte that needs no hunt
pub returns-then-hold : goal.returns-then-hold
unfolding fed_in
returns-then-hold c =
    let a = c.args in
    let state = a.state.now in
    let quiet = sym c.hold.ensures.value ∙ c.if-hold.true in
    let told = quiet-taken state a.byte quiet in
    let e = read_done (λ (n : Next). n.answer) (λ r. fed_by r a.byte) state told.0 refl told.1 in
    record {
      value = number-answered e;
      state_after = left-put (λ (n : Next). state_put n.reader state) state e
          (c.hold.ensures.bytes_after ∙ ap (λ t. cond t (state_put (fed_by (state_in state) a.byte).reader state) state) quiet);
    }

pub returns-in-Refused : goal.returns-in-Refused
unfolding fed_in
returns-in-Refused c =
    let held : holds_state c.args.state.now ≡ true = sym c.holds_state.ensures ∙ c.if-not-holds_state.false in
    let same : c.hold.new.bytes ≡ c.args.state.now = let a = c.args in
    let state = a.state.now in
    c.hold.ensures.bytes_after
    ∙ ap (λ t. cond t (state_put (fed_by (state_in state) a.byte).reader state) state) (sym c.hold.ensures.value ∙ c.if-hold.false) in
    let called : c.feed-next.result
    ≡ fed_by (state_in c.args.state.now) c.args.byte = let a = c.args in
    c.feed-next.ensures ∙ ap (λ r. fed_by r a.byte) (c.state_in.ensures ∙ ap state_in same) in
    let a = c.args in
    let state = a.state.now in
    let e = read-refused (λ (n : Next). n.answer) (λ r. fed_by r a.byte) state held called c.in-Refused.is in
    record { value = number-refused e; state_after = same ∙ left_alone (λ (n : Next). state_put n.reader state) state e }

pub returns : goal.returns
unfolding fed_in
returns c =
    let held : holds_state c.args.state.now ≡ true = sym c.holds_state.ensures ∙ c.if-not-holds_state.false in
    let same : c.hold.new.bytes ≡ c.args.state.now = let a = c.args in
    let state = a.state.now in
    c.hold.ensures.bytes_after
    ∙ ap (λ t. cond t (state_put (fed_by (state_in state) a.byte).reader state) state) (sym c.hold.ensures.value ∙ c.if-hold.false) in
    let called : c.feed-next.result
    ≡ fed_by (state_in c.args.state.now) c.args.byte = let a = c.args in
    c.feed-next.ensures ∙ ap (λ r. fed_by r a.byte) (c.state_in.ensures ∙ ap state_in same) in
    let a = c.args in
    let state = a.state.now in
    let e = read_done (λ (n : Next). n.answer) (λ r. fed_by r a.byte) state held called c.in_default.is in
    record {
      value = number-answered e;
      state_after = left-put (λ (n : Next). state_put n.reader state) state e
          (c.put_state.ensures.bytes_after ∙ ap (λ l. state_put c.feed-next.result.reader l) same);
    }
