-- At each head the hunt from here, with the positions counted so far, is the hunt from the start.
use Rattle.std.proofs.Common.{◌≡◌, ◌+◌, ◌-◌, ◌≤◌, eqb, length, sym, refl, ap, ◌∙◌, subst, add-one, arith, leb-false, leb-true}
use borrow.Author.Tests.{eqb-false}
use Rattle.bits.specs.Bits.{bits}
use Rattle.stream.specs.Standing.{size}
use Rattle.stream.proofs.Words.{n-lt, right-passes}
use Rattle.reader.specs.Cells.{held_bits}
use Rattle.reader.specs.Hunting.{hunt_of, Remembered}
use Rattle.reader.proofs.Looking.{looked-right, looked-wrong}
use Rattle.reader.proofs.Steps.{step-next, step-whole, step-out, step-wait, step_cut, step-none}
use Rattle.reader.proofs.Remembering.{nothing_yet, further, passing-more, remembered-more, length-remembered}
use Rattle.reader.proofs.hunt.hunt.Goals as goal

pub position-init : goal.position-init
position-init c =
    let a = c.args in
    (omega arith, c.requires.3, refl, refl, nothing_yet a.cells.now a.end (a.end - a.held), λ z. absurd (eqb-false a.held a.held z refl))

pub loop-good-init : goal.loop-good-init
loop-good-init c = (refl, omega arith, c.position.invariant.0, c.position.invariant.1, refl, refl, c.position.invariant.5)

pub window-w-requires : goal.window-w-requires
window-w-requires c = (c.requires.0, omega arith)

pub remember-requires : goal.remember-requires
remember-requires c =
    (ap length c.loop-good.invariant.5 ∙ c.position.invariant.3, omega arith)

pub seek-left-requires : goal.seek-left-requires
seek-left-requires c = (c.requires.0, omega arith, omega arith)

pub known-good-requires : goal.known-good-requires
known-good-requires c =
    let remembered-long : length c.remember.new.fails ≡ 30 = ap length c.remember.ensures ∙ length-remembered c.loop-good.fails _ _ _ ∙ ap length c.loop-good.invariant.5 ∙ c.position.invariant.3 in
    let remembered : Remembered c.args.cells.now c.args.end (c.args.end - c.loop-good.left + 1)
    c.remember.new.fails = let a = c.args in
    let cells = a.cells.now in
    let before = further cells a.end (a.end - c.position.left) (a.end - c.loop-good.left) c.loop-good.fails (omega arith)
    (subst (Remembered cells a.end (a.end - c.position.left)) (sym c.loop-good.invariant.5) c.position.invariant.4) in
    subst (Remembered cells a.end (a.end - c.loop-good.left + 1)) (sym c.remember.ensures)
    (remembered-more cells a.end (a.end - c.loop-good.left) c.loop-good.good c.loop-good.fails (ap length c.loop-good.invariant.5 ∙ c.position.invariant.3) (omega arith) before
    (eqb c.loop-good.left a.held) c.loop-good.invariant.6) in
    let a = c.args in
    let low : c.seek-left.result ≤ a.end = omega (arith, c.seek-left.ensures.0, c.loop-good.invariant.2, c.requires.2) in (
      c.requires.0,
      c.requires.1,
      low,
      remembered-long,
      further a.cells.now a.end (a.end - c.loop-good.left + 1) (a.end - c.seek-left.result) c.remember.new.fails
          (omega (arith, c.seek-left.ensures.0, c.loop-good.invariant.1, c.loop-good.invariant.2, c.requires.2)) remembered,
    )

pub position-smaller-in-Err : goal.position-smaller-in-Err
position-smaller-in-Err c = omega (arith, c.seek-left.ensures.0)

pub position-preserved-in-Err : goal.position-preserved-in-Err
position-preserved-in-Err c =
    let from_start : hunt_of c.args.cells.now c.args.end c.args.held c.args.words c.args.ended c.args.tally
    ≡ hunt_of c.args.cells.now c.args.end c.loop-good.left c.loop-good.good c.args.ended c.loop-good.count = c.position.invariant.2 ∙ c.loop-good.invariant.4 in
    let remembered-long : length c.remember.new.fails ≡ 30 = ap length c.remember.ensures ∙ length-remembered c.loop-good.fails _ _ _ ∙ ap length c.loop-good.invariant.5 ∙ c.position.invariant.3 in
    let remembered : Remembered c.args.cells.now c.args.end (c.args.end - c.loop-good.left + 1)
    c.remember.new.fails = let a = c.args in
    let cells = a.cells.now in
    let before = further cells a.end (a.end - c.position.left) (a.end - c.loop-good.left) c.loop-good.fails (omega arith)
    (subst (Remembered cells a.end (a.end - c.position.left)) (sym c.loop-good.invariant.5) c.position.invariant.4) in
    subst (Remembered cells a.end (a.end - c.loop-good.left + 1)) (sym c.remember.ensures)
    (remembered-more cells a.end (a.end - c.loop-good.left) c.loop-good.good c.loop-good.fails (ap length c.loop-good.invariant.5 ∙ c.position.invariant.3) (omega arith) before
    (eqb c.loop-good.left a.held) c.loop-good.invariant.6) in
    let a = c.args in
    let wrong =
    looked-wrong c.loop-good.good (bits 32 c.window-w.result) c.loop-good.count _ c.in-Err.ensures _ refl in (
      omega (arith, c.seek-left.ensures.0),
      c.known-good.ensures.0,
      from_start
          ∙ step-out a.cells.now c.requires.0 a.end c.requires.1 c.loop-good.left (omega arith) a.ended c.loop-good.count c.loop-good.good c.window-w.result
          c.loop-good.invariant.3 c.loop-good-test.true c.window-w.ensures wrong.0
          ∙ ap (hunt_of a.cells.now a.end (c.loop-good.left - 1) 0 a.ended) wrong.1
          ∙ c.seek-left.ensures.1 a.ended _
          ∙ c.known-good.ensures.2 a.ended _,
      remembered-long,
      further a.cells.now a.end (a.end - c.loop-good.left + 1) (a.end - c.seek-left.result) c.remember.new.fails
          (omega (arith, c.seek-left.ensures.0)) remembered,
      λ z. c.known-good.ensures.1,
    )

-- ---- a word that is right
pub whole-requires : goal.whole-requires
whole-requires c = (c.requires.0, omega arith, omega arith, omega arith)

pub returns-then-whole : goal.returns-then-whole
returns-then-whole c =
    let from_start : hunt_of c.args.cells.now c.args.end c.args.held c.args.words c.args.ended c.args.tally
    ≡ hunt_of c.args.cells.now c.args.end c.loop-good.left c.loop-good.good c.args.ended c.loop-good.count = c.position.invariant.2 ∙ c.loop-good.invariant.4 in
    let a = c.args in
    let good =
    looked-right c.loop-good.good (bits 32 c.window-w.result) c.loop-good.count _ c.in_default.ensures refl in
    let d = held_bits a.cells.now a.end c.loop-good.left in
    let all = leb-true (size d) (c.loop-good.good + 1) (sym c.whole.ensures ∙ c.if-whole.true) in (
      sym (from_start
          ∙ step-whole a.cells.now c.requires.0 a.end c.requires.1 c.loop-good.left (omega arith) a.ended c.loop-good.count c.loop-good.good c.window-w.result
          c.loop-good.invariant.3 c.loop-good-test.true c.window-w.ensures good (omega (arith, all))),
      omega arith,
    )

pub loop-good-preserved : goal.loop-good-preserved
loop-good-preserved c =
    let a = c.args in
    let good =
    looked-right c.loop-good.good (bits 32 c.window-w.result) c.loop-good.count _ c.in_default.ensures refl in
    let d = held_bits a.cells.now a.end c.loop-good.left in
    let more = leb-false (size d) (c.loop-good.good + 1) (sym c.whole.ensures ∙ c.if-whole.false) in (
      c.loop-good.invariant.0,
      c.loop-good.invariant.1,
      c.loop-good.invariant.2,
      omega (arith, more, n-lt d),
      c.loop-good.invariant.4
          ∙ step-next a.cells.now c.requires.0 a.end c.requires.1 c.loop-good.left (omega arith) a.ended c.loop-good.count c.loop-good.good c.window-w.result
          c.loop-good.invariant.3 c.loop-good-test.true c.window-w.ensures good (omega (arith, more))
          ∙ ap (λ k. hunt_of a.cells.now a.end c.loop-good.left k a.ended c.loop-good.count) (sym (add-one c.loop-good.good)),
      c.loop-good.invariant.5,
      λ z. passing-more a.cells.now (a.end - c.loop-good.left) c.loop-good.good c.window-w.result (c.loop-good.invariant.6 z) c.window-w.ensures
          (right-passes c.loop-good.good (bits 32 c.window-w.result) good),
    )

-- ---- the next word has not come
pub returns-then-not-ended : goal.returns-then-not-ended
returns-then-not-ended c =
    let a = c.args in
    let waits =
    step-wait a.cells.now c.requires.0 a.end c.requires.1 c.loop-good.left (omega arith) c.loop-good.count c.loop-good.good c.loop-good.invariant.3
    c.loop-good-test.false in
    (sym (c.position.invariant.2 ∙ c.loop-good.invariant.4 ∙ rw c.if-not-ended.true waits), omega arith)

pub position-preserved : goal.position-preserved
position-preserved c =
    let a = c.args in
    let cut =
    step_cut a.cells.now c.requires.0 a.end c.requires.1 c.loop-good.left (omega arith) c.loop-good.count c.loop-good.good c.loop-good.invariant.3 c.loop-good.invariant.1
    c.loop-good-test.false in (
      omega arith,
      omega arith,
      c.position.invariant.2 ∙ c.loop-good.invariant.4 ∙ rw c.if-not-ended.false cut,
      ap length c.loop-good.invariant.5 ∙ c.position.invariant.3,
      rw c.loop-good.invariant.5 (further a.cells.now a.end (a.end - c.position.left) (a.end - (c.loop-good.left - 1)) c.position.fails (omega arith) c.position.invariant.4),
      λ z j l. absurd (omega arith),
    )

pub returns : goal.returns
returns c =
    let a = c.args in
    let z : c.position.left ≡ 0 = omega arith in
    (sym (c.position.invariant.2 ∙ rw z (step-none a.cells.now a.end a.ended c.position.count c.position.good)), omega arith)
