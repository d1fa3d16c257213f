-- `candidate_in` meets its contract: a fresh reader's counts where no state is held, else those that are read. Assumes nothing.
use mathlib.Core.Path.{◌≡◌, sym, ap, ◌∙◌}
use mathlib.Core.Bool.{true}
use Rattle.reader.specs.declared.Reader.{Reader}
use Rattle.rtcm2_state.specs.State.{holds_state}
use Rattle.rtcm2_state.proofs.StateLaws.{held-long, read_none, read_is}
use Rattle.rtcm2_state.proofs.candidate_in.Goals as goal

pub returns-then-not-holds_state : goal.returns-then-not-holds_state
returns-then-not-holds_state c =
    ap (λ (r : Reader). r.candidate)
    (c.new-fresh.ensures ∙ sym (read_none c.args.bytes.now (sym c.holds_state.ensures
    ∙ c.if-not-holds_state.true)))

pub returns : goal.returns
returns c =
    let held : holds_state c.args.bytes.now ≡ true = sym c.holds_state.ensures ∙ c.if-not-holds_state.false in
    c.candidate_at.ensures ∙ ap (λ (r : Reader). r.candidate) (sym (read_is c.args.bytes.now held))

pub candidate_at-requires : goal.candidate_at-requires
candidate_at-requires c =
    let held : holds_state c.args.bytes.now ≡ true = sym c.holds_state.ensures ∙ c.if-not-holds_state.false in
    held-long c.args.bytes.now held
