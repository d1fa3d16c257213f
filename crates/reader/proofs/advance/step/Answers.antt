-- `step` meets its contract: the six bits pushed, then the hunt, from where seeking stops. Assumes nothing.
use Rattle.std.proofs.Common.{◌≡◌, ◌+◌, ◌≤◌, false, length, sym, ap, ◌∙◌, arith}
use Rattle.reader.specs.Hunting.{hunt_of}
use Rattle.reader.specs.Reading.{moved_to, step_cells, step_to}
use Rattle.reader.specs.declared.hunt.Halt.{Halt}
use Rattle.reader.proofs.Pushing.{length-pushed, room-low}
use Rattle.reader.proofs.Steps.{step-wait}
use Rattle.reader.proofs.Stepping.{step-law}
use Rattle.reader.proofs.advance.step.Goals as goal

-- ---- the needs
pub seek-left-requires : goal.seek-left-requires
seek-left-requires c =
    let long : length c.push-end.new.cells ≡ 40 = let a = c.args in
    ap length c.push-end.ensures.1 ∙ length-pushed a.cells.now a.c.end a.c.held c.requires.0 c.requires.1 c.requires.2 c.requires.3 a.six in
    let ends : (c.push-end.result ≤ 1280) × (c.args.c.held + 6 ≤ c.push-end.result) = let a = c.args in
    let low = room-low a.cells.now a.c.end a.c.held c.requires.0 c.requires.1 c.requires.2 c.requires.3 in
    (omega (arith, c.push-end.ensures.0, low.0), omega (arith, c.push-end.ensures.0, low.1)) in
    (long, ends.0, ends.1)

pub returns-then-left-words : goal.returns-then-left-words
unfolding step_cells
returns-then-left-words c =
    let long : length c.push-end.new.cells ≡ 40 = let a = c.args in
    ap length c.push-end.ensures.1 ∙ length-pushed a.cells.now a.c.end a.c.held c.requires.0 c.requires.1 c.requires.2 c.requires.3 a.six in
    let ends : (c.push-end.result ≤ 1280) × (c.args.c.held + 6 ≤ c.push-end.result) = let a = c.args in
    let low = room-low a.cells.now a.c.end a.c.held c.requires.0 c.requires.1 c.requires.2 c.requires.3 in
    (omega (arith, c.push-end.ensures.0, low.0), omega (arith, c.push-end.ensures.0, low.1)) in
    let moved-is : (halt : Halt)
    → halt ≡ hunt_of c.push-end.new.cells c.push-end.result (c.args.c.held + 6) c.args.c.words false c.args.c.tally
    → moved_to c.args.c.at c.push-end.result (c.args.c.held + 6) halt ≡ step_to c.args.cells.now c.args.c c.args.six = λ halt e. let a = c.args in
    step-law a.cells.now a.c a.six c.push-end.new.cells c.push-end.result halt c.push-end.ensures.1 c.push-end.ensures.0 e in
    let stays =
    step-wait c.push-end.new.cells long c.push-end.result ends.0 c.seek-left.result
    (omega (arith, ends.1, c.seek-left.ensures.0)) c.args.c.tally c.args.c.words c.requires.4 c.if-left-words.true in
    (c.moved.ensures ∙ moved-is _ (sym (c.seek-left.ensures.1 false c.args.c.tally ∙ stays)), c.push-end.ensures.1)

pub hunt-halt-requires : goal.hunt-halt-requires
hunt-halt-requires c =
    let long : length c.push-end.new.cells ≡ 40 = let a = c.args in
    ap length c.push-end.ensures.1 ∙ length-pushed a.cells.now a.c.end a.c.held c.requires.0 c.requires.1 c.requires.2 c.requires.3 a.six in
    let ends : (c.push-end.result ≤ 1280) × (c.args.c.held + 6 ≤ c.push-end.result) = let a = c.args in
    let low = room-low a.cells.now a.c.end a.c.held c.requires.0 c.requires.1 c.requires.2 c.requires.3 in
    (omega (arith, c.push-end.ensures.0, low.0), omega (arith, c.push-end.ensures.0, low.1)) in
    (long, ends.0, omega (arith, ends.1, c.seek-left.ensures.0), c.requires.4)

pub moved-requires-2 : goal.moved-requires-2
moved-requires-2 c = (omega (arith, c.hunt-halt.ensures.1, c.seek-left.ensures.0), omega arith)

pub returns : goal.returns
unfolding step_cells
returns c =
    let moved-is : (halt : Halt)
    → halt ≡ hunt_of c.push-end.new.cells c.push-end.result (c.args.c.held + 6) c.args.c.words false c.args.c.tally
    → moved_to c.args.c.at c.push-end.result (c.args.c.held + 6) halt ≡ step_to c.args.cells.now c.args.c c.args.six = λ halt e. let a = c.args in
    step-law a.cells.now a.c a.six c.push-end.new.cells c.push-end.result halt c.push-end.ensures.1 c.push-end.ensures.0 e in
    let halt = c.hunt-halt.ensures.0 ∙ sym (c.seek-left.ensures.1 false c.args.c.tally) in
    (c.moved-2.ensures ∙ moved-is _ halt, c.push-end.ensures.1)
