-- `run` meets its contract: by a loop over the bytes; the run from the start is what was used and the run from here. Assumes nothing.
use Rattle.std.proofs.Common.{ℕ, ◌+◌, ◌≤◌, List, length, get_or, drop, sym, ap, ◌∙◌, subst, ap₂, arith}
use Rattle.bits.specs.Bits.{number}
use Rattle.line.specs.Line.{six}
use Rattle.line.proofs.LineLaws.{six-lt, six-bits, six-refused}
use Rattle.reader.specs.Reading.{step_cells, step_to, Run, spent, run_to}
use Rattle.reader.proofs.Accepted.{Accepted, to-accepted, room-free, length-step, accepted-step}
use Rattle.reader.proofs.Running.{spent-none, loop-waits, loop-ends, loop-on, loop-over}
use Rattle.reader.proofs.Ahead.{many-quiet}
use Rattle.reader.proofs.Bursts.{goes-many}
use Rattle.reader.proofs.advance.run.Goals as goal

pub loop-used-init : goal.loop-used-init
loop-used-init c =
    let a = c.args in (
      c.requires.0,
      to-accepted a.from c.requires.1,
      omega arith,
      omega arith,
      spent-none (run_to a.cells.now a.from a.bytes.now),
    )

-- ---- a frame waits
pub returns-then-c : goal.returns-then-c
returns-then-c c =
    let a = c.args in
    loop-waits (run_to a.cells.now a.from a.bytes.now) a.bytes.now
    c.loop-used.cells c.loop-used.c c.loop-used.used c.loop-used.passed c.loop-used.invariant.4 c.if-c.true

-- ---- five bytes at once
pub five_of-requires : goal.five_of-requires
five_of-requires c =
    (c.loop-used.invariant.2, room-free c.loop-used.c c.loop-used.invariant.1 c.if-c.false, c.loop-used.invariant.1.few)

pub burst-c-requires : goal.burst-c-requires
burst-c-requires c =
    let bytes : List ℕ = c.args.bytes.now in
    let k = c.loop-used.invariant.1 in
    let v = c.in-Some.ensures in
    let room = room-free c.loop-used.c k c.if-c.false in
    (c.loop-used.invariant.0, v.0, k.low, room, k.few, v.1, v.2)

pub overflow_add-used : goal.overflow_add-used
overflow_add-used c =
    let bytes : List ℕ = c.args.bytes.now in
    let enough : c.loop-used.used + 5 ≤ length bytes = let v = c.in-Some.ensures in
    omega (arith, v.3.4.4.4.4.0) in
    omega (arith, enough)

pub loop-used-smaller-in-Some : goal.loop-used-smaller-in-Some
loop-used-smaller-in-Some c =
    let bytes : List ℕ = c.args.bytes.now in
    let enough : c.loop-used.used + 5 ≤ length bytes = let v = c.in-Some.ensures in
    omega (arith, v.3.4.4.4.4.0) in
    omega (arith, enough)

pub loop-used-preserved-in-Some : goal.loop-used-preserved-in-Some
loop-used-preserved-in-Some c =
    let bytes : List ℕ = c.args.bytes.now in
    let whole : Run = run_to c.args.cells.now c.args.from bytes in
    let enough : c.loop-used.used + 5 ≤ length bytes = let v = c.in-Some.ensures in
    omega (arith, v.3.4.4.4.4.0) in
    let k = c.loop-used.invariant.1 in
    let v = c.in-Some.ensures in
    let cells = c.burst-c.ensures.1 in
    let next = c.burst-c.ensures.0 in
    let quiet =
    many-quiet c.loop-used.cells c.loop-used.c c.loop-used.invariant.0 v.0 k.low k.few v.1 _ _ _ _ v.3.4.3 v.3.4.4.3 v.3.4.4.4.3 0 in
    let g =
    goes-many whole bytes _ c.loop-used.cells c.loop-used.c c.loop-used.used c.loop-used.passed (record { long = c.loop-used.invariant.0; fine = k; is = c.loop-used.invariant.4 })
    c.if-c.false v.3 quiet in (
      ap length cells ∙ g.long,
      subst Accepted (sym next) g.fine,
      omega (arith, enough),
      omega arith,
      g.is ∙ ap₂ (λ x y. spent (c.loop-used.used + 5) c.loop-used.passed (run_to x y (drop (c.loop-used.used + 5) bytes))) (sym cells) (sym next),
    )

-- ---- a byte that carries six bits
pub hold-c-requires : goal.hold-c-requires
hold-c-requires c =
    let bytes : List ℕ = c.args.bytes.now in
    let byte : ℕ = get_or bytes c.loop-used.used 0 in
    let k = c.loop-used.invariant.1 in
    let d = six-bits byte _ (sym c.six_of-line.ensures ∙ c.in-Ok.is) in
    (c.loop-used.invariant.0, k.top, k.low, room-free c.loop-used.c k c.if-c.false, k.few, omega (arith, d.1, six-lt byte), omega arith)

pub loop-used-preserved-then-c-2 : goal.loop-used-preserved-then-c-2
loop-used-preserved-then-c-2 c =
    let bytes : List ℕ = c.args.bytes.now in
    let whole : Run = run_to c.args.cells.now c.args.from bytes in
    let byte : ℕ = get_or bytes c.loop-used.used 0 in
    let w = c.if-c.false in
    let d = six-bits byte _ (sym c.six_of-line.ensures ∙ c.in-Ok.is) in
    let cells = c.hold-c.ensures.1 ∙ ap (step_cells c.loop-used.cells c.loop-used.c) d.1 in
    let next = c.hold-c.ensures.0 ∙ ap (step_to c.loop-used.cells c.loop-used.c) d.1 in (
      ap length cells ∙ length-step c.loop-used.cells c.loop-used.invariant.0 c.loop-used.c c.loop-used.invariant.1 w (number (six byte)),
      subst Accepted (sym next) (accepted-step c.loop-used.cells c.loop-used.invariant.0 c.loop-used.c c.loop-used.invariant.1 w (number (six byte))),
      omega arith,
      omega arith,
      loop-on whole bytes c.loop-used.cells c.loop-used.c c.loop-used.used c.loop-used.passed c.loop-used.invariant.4 w c.loop-used-test.true
          d.0 c.hold-c.new.cells cells c.hold-c.result next,
    )

pub step-c-requires : goal.step-c-requires
step-c-requires c =
    let bytes : List ℕ = c.args.bytes.now in
    let byte : ℕ = get_or bytes c.loop-used.used 0 in
    let k = c.loop-used.invariant.1 in
    let d = six-bits byte _ (sym c.six_of-line.ensures ∙ c.in-Ok.is) in
    (c.loop-used.invariant.0, k.top, k.low, room-free c.loop-used.c k c.if-c.false, k.few, omega (arith, d.1, six-lt byte))

pub loop-used-preserved-else-c-2 : goal.loop-used-preserved-else-c-2
loop-used-preserved-else-c-2 c =
    let bytes : List ℕ = c.args.bytes.now in
    let whole : Run = run_to c.args.cells.now c.args.from bytes in
    let byte : ℕ = get_or bytes c.loop-used.used 0 in
    let w = c.if-c.false in
    let d = six-bits byte _ (sym c.six_of-line.ensures ∙ c.in-Ok.is) in
    let cells = c.step-c.ensures.1 ∙ ap (step_cells c.loop-used.cells c.loop-used.c) d.1 in
    let next = c.step-c.ensures.0 ∙ ap (step_to c.loop-used.cells c.loop-used.c) d.1 in (
      ap length cells ∙ length-step c.loop-used.cells c.loop-used.invariant.0 c.loop-used.c c.loop-used.invariant.1 w (number (six byte)),
      subst Accepted (sym next) (accepted-step c.loop-used.cells c.loop-used.invariant.0 c.loop-used.c c.loop-used.invariant.1 w (number (six byte))),
      omega arith,
      omega arith,
      loop-on whole bytes c.loop-used.cells c.loop-used.c c.loop-used.used c.loop-used.passed c.loop-used.invariant.4 w c.loop-used-test.true
          d.0 c.step-c.new.cells cells c.step-c.result next,
    )

-- ---- a byte that carries none, and the end of the bytes
pub loop-used-preserved : goal.loop-used-preserved
loop-used-preserved c =
    let bytes : List ℕ = c.args.bytes.now in
    let whole : Run = run_to c.args.cells.now c.args.from bytes in
    let byte : ℕ = get_or bytes c.loop-used.used 0 in
    let d = six-refused byte _ (sym c.six_of-line.ensures ∙ c.in_default-line.is) in (
      c.loop-used.invariant.0,
      c.loop-used.invariant.1,
      omega arith,
      omega arith,
      loop-over whole bytes c.loop-used.cells c.loop-used.c c.loop-used.used c.loop-used.passed c.loop-used.invariant.4 c.if-c.false
          c.loop-used-test.true d,
    )

pub returns : goal.returns
returns c =
    let a = c.args in
    loop-ends (run_to a.cells.now a.from a.bytes.now) a.bytes.now
    c.loop-used.cells c.loop-used.c c.loop-used.used c.loop-used.passed c.loop-used.invariant.4 c.loop-used-test.false

pub loop-used-smaller-then-c-2 : goal.loop-used-smaller-then-c-2
loop-used-smaller-then-c-2 c = omega arith

pub loop-used-smaller-else-c-2 : goal.loop-used-smaller-else-c-2
loop-used-smaller-else-c-2 c = omega arith

pub loop-used-smaller : goal.loop-used-smaller
loop-used-smaller c = omega arith
