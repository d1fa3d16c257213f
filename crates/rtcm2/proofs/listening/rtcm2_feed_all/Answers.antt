-- `rtcm2_feed_all` meets its contract: no state held, the reader's refusal, or the state that is left. Assumes nothing.
use mathlib.Core.Path.{◌≡◌, refl, sym, ap, ◌∙◌}
use mathlib.Core.Bool.{true}
use Rattle.reader.specs.Reading.{fed_all_by}
use Rattle.reader.specs.declared.FedAll.{FedAll}
use Rattle.rtcm2_state.specs.State.{holds_state, state_in, state_put}
use Rattle.rtcm2.specs.Line.{fed_all_in}
use Rattle.rtcm2.proofs.LineLaws.{number-refused, number-answered, left_alone, left-put, read_none, read-refused, read_done}
use Rattle.rtcm2.proofs.listening.rtcm2_feed_all.Goals as goal

pub returns-then-not-holds_state : goal.returns-then-not-holds_state
unfolding fed_all_in
returns-then-not-holds_state c =
    let a = c.args in
    let state = a.state.now in
    let e = read_none (λ (n : FedAll). n.answer) (λ r. fed_all_by r a.bytes.now) state (sym c.holds_state.ensures ∙ c.if-not-holds_state.true) in
    record { value = number-refused e; state_after = left_alone (λ (n : FedAll). state_put n.reader state) state e; used_after = left_alone (λ (n : FedAll). n.used) a.used.now e; passed_after = left_alone (λ (n : FedAll). n.passed) a.passed.now e }

pub returns-in-Refused : goal.returns-in-Refused
unfolding fed_all_in
returns-in-Refused c =
    let held : holds_state c.args.state.now ≡ true = sym c.holds_state.ensures ∙ c.if-not-holds_state.false in
    let called : c.feed_all-fed.result
    ≡ fed_all_by (state_in c.args.state.now) c.args.bytes.now = let a = c.args in
    c.feed_all-fed.ensures ∙ ap (λ r. fed_all_by r a.bytes.now) c.state_in.ensures in
    let a = c.args in
    let state = a.state.now in
    let e = read-refused (λ (n : FedAll). n.answer) (λ r. fed_all_by r a.bytes.now) state held called c.in-Refused.is in
    record { value = number-refused e; state_after = left_alone (λ (n : FedAll). state_put n.reader state) state e; used_after = left_alone (λ (n : FedAll). n.used) a.used.now e; passed_after = left_alone (λ (n : FedAll). n.passed) a.passed.now e }

pub returns : goal.returns
unfolding fed_all_in
returns c =
    let held : holds_state c.args.state.now ≡ true = sym c.holds_state.ensures ∙ c.if-not-holds_state.false in
    let called : c.feed_all-fed.result
    ≡ fed_all_by (state_in c.args.state.now) c.args.bytes.now = let a = c.args in
    c.feed_all-fed.ensures ∙ ap (λ r. fed_all_by r a.bytes.now) c.state_in.ensures in
    let a = c.args in
    let state = a.state.now in
    let e = read_done (λ (n : FedAll). n.answer) (λ r. fed_all_by r a.bytes.now) state held called c.in_default.is in
    record { value = number-answered e; state_after = left-put (λ (n : FedAll). state_put n.reader state) state e c.put_state.ensures.bytes_after; used_after = left-put (λ (n : FedAll). n.used) a.used.now e refl; passed_after = left-put (λ (n : FedAll). n.passed) a.passed.now e refl }
