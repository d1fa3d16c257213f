-- `burst` meets its contract: five times six bits put in at once, then the hunt, from where seeking stops. Assumes nothing.
use Rattle.std.proofs.Common.{◌≡◌, ℕ, ◌+◌, ◌<◌, false, length, sym, ap, ◌∙◌, arith}
use Rattle.reader.specs.Five.{six_at, sixes_of}
use Rattle.reader.specs.Hunting.{hunt_of}
use Rattle.reader.specs.Reading.{moved_to, many_cells, many_to}
use Rattle.reader.specs.declared.hunt.Halt.{Halt}
use Rattle.reader.proofs.Ahead.{length-five, many-cells, many-to}
use Rattle.reader.proofs.Steps.{step-wait}
use Rattle.reader.proofs.advance.burst.Goals as goal

-- ---- the needs
pub seek-left-requires : goal.seek-left-requires
seek-left-requires c =
    let long : length c.put_five.new.cells ≡ 40 = let a = c.args in
    ap length c.put_five.ensures ∙ length-five a.cells.now a.c.end _ _ _ _ _ ∙ c.requires.0 in
    (long, omega (arith, c.requires.1), omega (arith, c.requires.2))

pub returns-then-left-words : goal.returns-then-left-words
returns-then-left-words c =
    let long : length c.put_five.new.cells ≡ 40 = let a = c.args in
    ap length c.put_five.ensures ∙ length-five a.cells.now a.c.end _ _ _ _ _ ∙ c.requires.0 in
    let low : (k : ℕ) → six_at k c.args.thirty < 64 = λ k. omega arith in
    let cells_are : c.put_five.new.cells
    ≡ many_cells c.args.cells.now c.args.c (sixes_of c.args.thirty) = let a = c.args in
    c.put_five.ensures
    ∙ sym (many-cells a.cells.now a.c c.requires.0 c.requires.1 c.requires.2 c.requires.4 c.requires.5 _ _ _ _ (low 3) (low 2) (low 1) _ (low 0)) in
    let moved-is : (halt : Halt)
    → halt ≡ hunt_of c.put_five.new.cells (c.args.c.end + 30) (c.args.c.held + 30) c.args.c.words false c.args.c.tally
    → moved_to c.args.c.at (c.args.c.end + 30) (c.args.c.held + 30) halt
    ≡ many_to c.args.cells.now c.args.c (sixes_of c.args.thirty) = λ halt e. let a = c.args in
    sym (many-to a.cells.now a.c c.requires.0 c.requires.1 c.requires.2 c.requires.4 c.requires.5 _ _ _ _ (low 3) (low 2) (low 1) _ (low 0)
    _ c.put_five.ensures halt e) in
    let stays =
    step-wait c.put_five.new.cells long (c.args.c.end + 30) (omega (arith, c.requires.1)) c.seek-left.result
    (omega (arith, c.requires.2, c.seek-left.ensures.0)) c.args.c.tally c.args.c.words c.requires.4 c.if-left-words.true in
    (c.moved.ensures ∙ moved-is _ (sym (c.seek-left.ensures.1 false c.args.c.tally ∙ stays)), cells_are)

pub glance-requires : goal.glance-requires
glance-requires c =
    let long : length c.put_five.new.cells ≡ 40 = let a = c.args in
    ap length c.put_five.ensures ∙ length-five a.cells.now a.c.end _ _ _ _ _ ∙ c.requires.0 in
    (long, omega (arith, c.requires.1), omega (arith, c.requires.2, c.seek-left.ensures.0), c.requires.4, c.if-left-words.false)

pub moved-requires-in-Some : goal.moved-requires-in-Some
moved-requires-in-Some c =
    (omega (arith, c.in-Some.ensures.1, c.seek-left.ensures.0), omega (arith, c.requires.3))

pub returns-in-Some : goal.returns-in-Some
returns-in-Some c =
    let low : (k : ℕ) → six_at k c.args.thirty < 64 = λ k. omega arith in
    let cells_are : c.put_five.new.cells
    ≡ many_cells c.args.cells.now c.args.c (sixes_of c.args.thirty) = let a = c.args in
    c.put_five.ensures
    ∙ sym (many-cells a.cells.now a.c c.requires.0 c.requires.1 c.requires.2 c.requires.4 c.requires.5 _ _ _ _ (low 3) (low 2) (low 1) _ (low 0)) in
    let moved-is : (halt : Halt)
    → halt ≡ hunt_of c.put_five.new.cells (c.args.c.end + 30) (c.args.c.held + 30) c.args.c.words false c.args.c.tally
    → moved_to c.args.c.at (c.args.c.end + 30) (c.args.c.held + 30) halt
    ≡ many_to c.args.cells.now c.args.c (sixes_of c.args.thirty) = λ halt e. let a = c.args in
    sym (many-to a.cells.now a.c c.requires.0 c.requires.1 c.requires.2 c.requires.4 c.requires.5 _ _ _ _ (low 3) (low 2) (low 1) _ (low 0)
    _ c.put_five.ensures halt e) in (
      c.moved-in-Some.ensures ∙ moved-is _ (c.in-Some.ensures.0 ∙ sym (c.seek-left.ensures.1 false c.args.c.tally)),
      cells_are,
    )

-- ---- the hunt goes on
pub hunt-halt-requires : goal.hunt-halt-requires
hunt-halt-requires c =
    let long : length c.put_five.new.cells ≡ 40 = let a = c.args in
    ap length c.put_five.ensures ∙ length-five a.cells.now a.c.end _ _ _ _ _ ∙ c.requires.0 in
    (long, omega (arith, c.requires.1), omega (arith, c.requires.2, c.seek-left.ensures.0), c.requires.4)

pub returns : goal.returns
returns c =
    let low : (k : ℕ) → six_at k c.args.thirty < 64 = λ k. omega arith in
    let cells_are : c.put_five.new.cells
    ≡ many_cells c.args.cells.now c.args.c (sixes_of c.args.thirty) = let a = c.args in
    c.put_five.ensures
    ∙ sym (many-cells a.cells.now a.c c.requires.0 c.requires.1 c.requires.2 c.requires.4 c.requires.5 _ _ _ _ (low 3) (low 2) (low 1) _ (low 0)) in
    let moved-is : (halt : Halt)
    → halt ≡ hunt_of c.put_five.new.cells (c.args.c.end + 30) (c.args.c.held + 30) c.args.c.words false c.args.c.tally
    → moved_to c.args.c.at (c.args.c.end + 30) (c.args.c.held + 30) halt
    ≡ many_to c.args.cells.now c.args.c (sixes_of c.args.thirty) = λ halt e. let a = c.args in
    sym (many-to a.cells.now a.c c.requires.0 c.requires.1 c.requires.2 c.requires.4 c.requires.5 _ _ _ _ (low 3) (low 2) (low 1) _ (low 0)
    _ c.put_five.ensures halt e) in
    (c.moved-2.ensures ∙ moved-is _ (c.hunt-halt.ensures.0 ∙ sym (c.seek-left.ensures.1 false c.args.c.tally)), cells_are)
