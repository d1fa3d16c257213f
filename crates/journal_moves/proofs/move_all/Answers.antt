-- `move_all` meets its contract: by a loop that moves a record behind those moved. Assumes nothing.
use mathlib.Core.Path.{◌≡◌, ap, ◌∙◌}
use Prim.Native.Nat.{◌-◌}
use native.Mathlib.Omega.{arith}
use lib.ListN.{length, take, drop, length-drop}
use mathlib.Core.List.{◌++◌}
use Rattle.journal_moves.specs.Moving.{moved_by}
use Rattle.journal_moves.specs.declared.Moved.TheVariants.{Done, Refused}
use Rattle.journal_moves.proofs.RunLaws.{Stepped}
use Rattle.journal_moves.proofs.PieceLaws.{part-told, part_held, so-none, stepped, so-turn, so-refused, so-piece, so-held, so-end, so-stop}
use Rattle.journal_moves.proofs.move_all.Goals as goal

pub loop-read-init : goal.loop-read-init
loop-read-init c = so-none _ _ _

pub slice_bounds-move_one-count-in-loop-read : goal.slice_bounds-move_one-count-in-loop-read
slice_bounds-move_one-count-in-loop-read c = c.loop-read.invariant.room

pub slice_bounds-move_one-start-in-loop-read : goal.slice_bounds-move_one-start-in-loop-read
slice_bounds-move_one-start-in-loop-read c = c.loop-read.invariant.room

pub overflow_add-read : goal.overflow_add-read
overflow_add-read c =
    let told : let a = c.args in
    moved_by a.way (drop c.loop-read.read a.bytes.now) (length (drop c.loop-read.written c.loop-read.buffer)) ≡ Done c.in-Done.more c.in-Done.new = let a = c.args in
    part-told a.way a.bytes.now c.loop-read.buffer c.loop-read.read c.loop-read.written c.move_one.ensures.value ∙ c.in-Done.is in
    let step : let a = c.args in
    Stepped a.way (drop c.loop-read.read a.bytes.now) (length (drop c.loop-read.written c.loop-read.buffer)) c.in-Done.more c.in-Done.new = stepped _ _ _ _ _ _ c.loop-read.invariant c.loop-read-test.true _ _ told in
    omega (arith, step.inside, length-drop c.loop-read.read c.args.bytes.now, c.loop-read.invariant.inside)

pub overflow_add-written : goal.overflow_add-written
overflow_add-written c =
    let told : let a = c.args in
    moved_by a.way (drop c.loop-read.read a.bytes.now) (length (drop c.loop-read.written c.loop-read.buffer)) ≡ Done c.in-Done.more c.in-Done.new = let a = c.args in
    part-told a.way a.bytes.now c.loop-read.buffer c.loop-read.read c.loop-read.written c.move_one.ensures.value ∙ c.in-Done.is in
    let step : let a = c.args in
    Stepped a.way (drop c.loop-read.read a.bytes.now) (length (drop c.loop-read.written c.loop-read.buffer)) c.in-Done.more c.in-Done.new = stepped _ _ _ _ _ _ c.loop-read.invariant c.loop-read-test.true _ _ told in
    omega (arith, step.fits, length-drop c.loop-read.written c.loop-read.buffer, c.loop-read.invariant.room, c.loop-read.invariant.same)

pub loop-read-smaller : goal.loop-read-smaller
loop-read-smaller c =
    let told : let a = c.args in
    moved_by a.way (drop c.loop-read.read a.bytes.now) (length (drop c.loop-read.written c.loop-read.buffer)) ≡ Done c.in-Done.more c.in-Done.new = let a = c.args in
    part-told a.way a.bytes.now c.loop-read.buffer c.loop-read.read c.loop-read.written c.move_one.ensures.value ∙ c.in-Done.is in
    let step : let a = c.args in
    Stepped a.way (drop c.loop-read.read a.bytes.now) (length (drop c.loop-read.written c.loop-read.buffer)) c.in-Done.more c.in-Done.new = stepped _ _ _ _ _ _ c.loop-read.invariant c.loop-read-test.true _ _ told in
    omega (arith, step.some, step.inside, length-drop c.loop-read.read c.args.bytes.now)

pub loop-read-preserved : goal.loop-read-preserved
loop-read-preserved c =
    let told : let a = c.args in
    moved_by a.way (drop c.loop-read.read a.bytes.now) (length (drop c.loop-read.written c.loop-read.buffer)) ≡ Done c.in-Done.more c.in-Done.new = let a = c.args in
    part-told a.way a.bytes.now c.loop-read.buffer c.loop-read.read c.loop-read.written c.move_one.ensures.value ∙ c.in-Done.is in
    let a = c.args in
    so-turn _ _ _ _ _ _ c.loop-read.invariant c.loop-read-test.true _ _ told
    (part_held a.way a.bytes.now c.loop-read.buffer c.loop-read.read c.loop-read.written c.move_one.ensures.buffer_after)

pub shape_of-buffer-in-Refused : goal.shape_of-buffer-in-Refused
shape_of-buffer-in-Refused c =
    let refused : let a = c.args in
    moved_by a.way (drop c.loop-read.read a.bytes.now) (length (drop c.loop-read.written c.loop-read.buffer)) ≡ Refused c.in-Refused.number = let a = c.args in
    part-told a.way a.bytes.now c.loop-read.buffer c.loop-read.read c.loop-read.written c.move_one.ensures.value ∙ c.in-Refused.is in
    let unchanged : take c.loop-read.written c.loop-read.buffer ++ (c.move_one.new.buffer ++ drop (length c.loop-read.buffer - c.loop-read.written) (drop
    c.loop-read.written c.loop-read.buffer))
    ≡ c.loop-read.buffer = let a = c.args in
    so-refused _ _ _ _ _ _ c.loop-read.invariant refused (part_held a.way a.bytes.now c.loop-read.buffer c.loop-read.read c.loop-read.written c.move_one.ensures.buffer_after) in
    ap length unchanged ∙ c.loop-read.invariant.same

pub returns-in-Refused : goal.returns-in-Refused
returns-in-Refused c =
    let refused : let a = c.args in
    moved_by a.way (drop c.loop-read.read a.bytes.now) (length (drop c.loop-read.written c.loop-read.buffer)) ≡ Refused c.in-Refused.number = let a = c.args in
    part-told a.way a.bytes.now c.loop-read.buffer c.loop-read.read c.loop-read.written c.move_one.ensures.value ∙ c.in-Refused.is in
    let unchanged : take c.loop-read.written c.loop-read.buffer ++ (c.move_one.new.buffer ++ drop (length c.loop-read.buffer - c.loop-read.written) (drop
    c.loop-read.written c.loop-read.buffer))
    ≡ c.loop-read.buffer = let a = c.args in
    so-refused _ _ _ _ _ _ c.loop-read.invariant refused (part_held a.way a.bytes.now c.loop-read.buffer c.loop-read.read c.loop-read.written c.move_one.ensures.buffer_after) in
    let here = so-stop _ _ _ _ _ _ c.loop-read.invariant c.loop-read-test.true refused in
    record { value = so-piece _ _ _ _ _ _ c.loop-read.invariant _ here; buffer_after = unchanged ∙ so-held _ _ _ _ _ _ c.loop-read.invariant _ here; read_in_bounds = (c.loop-read.invariant.inside, rw unchanged c.loop-read.invariant.room) }

pub returns : goal.returns
returns c =
    let here = so-end _ _ _ _ _ _ c.loop-read.invariant c.loop-read-test.false in
    record { value = so-piece _ _ _ _ _ _ c.loop-read.invariant _ here; buffer_after = so-held _ _ _ _ _ _ c.loop-read.invariant _ here; read_in_bounds = (c.loop-read.invariant.inside, c.loop-read.invariant.room) }

pub shape_of-buffer : goal.shape_of-buffer
shape_of-buffer c = c.loop-read.invariant.same
