-- `state_in` meets its contract: a fresh reader where no state is held, else its cells, its counts and whether it has ended. Assumes nothing.
use mathlib.Core.Path.{◌≡◌, sym, ◌∙◌}
use mathlib.Core.Bool.{true}
use Rattle.rtcm2_state.specs.State.{holds_state}
use Rattle.rtcm2_state.proofs.StateLaws.{held-long, read_none, read_held}
use Rattle.rtcm2_state.proofs.state_in.Goals as goal

pub returns-then-not-holds_state : goal.returns-then-not-holds_state
returns-then-not-holds_state c =
    c.new.ensures ∙ sym (read_none c.args.bytes.now (sym c.holds_state.ensures
    ∙ c.if-not-holds_state.true))

pub returns : goal.returns
returns c =
    let held : holds_state c.args.bytes.now ≡ true = sym c.holds_state.ensures ∙ c.if-not-holds_state.false in
    read_held c.args.bytes.now held c.cells_in-cells.ensures c.candidate_at-candidate.ensures c.ended_at.ensures

pub cells_in-cells-requires : goal.cells_in-cells-requires
cells_in-cells-requires c =
    let held : holds_state c.args.bytes.now ≡ true = sym c.holds_state.ensures ∙ c.if-not-holds_state.false in
    held-long c.args.bytes.now held

pub candidate_at-candidate-requires : goal.candidate_at-candidate-requires
candidate_at-candidate-requires c =
    let held : holds_state c.args.bytes.now ≡ true = sym c.holds_state.ensures ∙ c.if-not-holds_state.false in
    held-long c.args.bytes.now held

pub ended_at-requires : goal.ended_at-requires
ended_at-requires c =
    let held : holds_state c.args.bytes.now ≡ true = sym c.holds_state.ensures ∙ c.if-not-holds_state.false in
    held-long c.args.bytes.now held
