-- `turns` meets its contract: by a loop whose turn feeds the bytes left and takes the frame that waits. Assumes nothing.
use Rattle.std.proofs.Common.{◌≡◌, ℕ, suc, ◌+◌, ◌-◌, ◌*◌, ◌/◌, ◌^◌, ◌<◌, ◌≤◌, true, false, List, length, drop, sym, refl, ap, ◌∙◌, subst, arith, length-drop}
use lib.Seq.{length-sets}
use Rattle.stream.specs.Standing.{frame_at}
use Rattle.reader.specs.Reading.{candidate_bits, frame_waits, Run, run_to}
use Rattle.reader.specs.Rows.{row_size, row_of, Turns, in_turns, going}
use Rattle.reader.proofs.Accepted.{Accepted, to-accepted, from-accepted, accepted-take}
use Rattle.reader.proofs.Running.{run-counts}
use Rattle.reader.proofs.Turning.{Far, Sound, run_sound, run-tail, turn-none, turn_on, waits-stands}
use Rattle.reader.proofs.Turning.{far-start, far-on, far-end, far-full, far-drop}
use Rattle.reader.proofs.rows.turns.Goals as goal

pub loop-count-init : goal.loop-count-init
loop-count-init c =
    let room : ℕ = length c.args.rows.now / row_size in
    let a = c.args in
    let room = length a.rows.now / row_size in
    let all : room - 0 ≡ room = omega arith in
    let far = far-start room (room - 0) all (going a.cells.now a.from) a.bytes.now a.rows.now in
    (c.requires.0, to-accepted a.from c.requires.1, omega arith, omega arith, refl, far)

pub run-ran-requires : goal.run-ran-requires
run-ran-requires c = (c.loop-count.invariant.0, from-accepted c.loop-count.c c.loop-count.invariant.1)

pub overflow_add-used : goal.overflow_add-used
overflow_add-used c =
    let bytes : List ℕ = c.args.bytes.now in
    let ran : Run = record { cells = c.run-ran.new.cells; candidate = c.run-ran.result.candidate; used = c.run-ran.result.used; passed = c.run-ran.result.passed } in
    let ran-is : ran ≡ run_to c.loop-count.cells c.loop-count.c (drop c.loop-count.used bytes) = run-tail c.loop-count.cells c.loop-count.c bytes c.loop-count.used ran c.run-ran.ensures in
    let counts : (ran.used ≤ length (drop c.loop-count.used bytes)) × (ran.passed ≤ ran.used) = subst (λ x. (x.used ≤ length (drop c.loop-count.used bytes)) × (x.passed ≤ x.used)) (sym ran-is)
    (run-counts (drop c.loop-count.used bytes) c.loop-count.cells c.loop-count.c) in
    let fits : c.loop-count.used + ran.used ≤ length bytes = omega (arith, counts.0, length-drop c.loop-count.used bytes, c.loop-count.invariant.2) in
    omega (arith, fits)

pub overflow_add-passed : goal.overflow_add-passed
overflow_add-passed c =
    let bytes : List ℕ = c.args.bytes.now in
    let ran : Run = record { cells = c.run-ran.new.cells; candidate = c.run-ran.result.candidate; used = c.run-ran.result.used; passed = c.run-ran.result.passed } in
    let ran-is : ran ≡ run_to c.loop-count.cells c.loop-count.c (drop c.loop-count.used bytes) = run-tail c.loop-count.cells c.loop-count.c bytes c.loop-count.used ran c.run-ran.ensures in
    let counts : (ran.used ≤ length (drop c.loop-count.used bytes)) × (ran.passed ≤ ran.used) = subst (λ x. (x.used ≤ length (drop c.loop-count.used bytes)) × (x.passed ≤ x.used)) (sym ran-is)
    (run-counts (drop c.loop-count.used bytes) c.loop-count.cells c.loop-count.c) in
    let fits : c.loop-count.used + ran.used ≤ length bytes = omega (arith, counts.0, length-drop c.loop-count.used bytes, c.loop-count.invariant.2) in
    omega (arith, fits, counts.1, c.loop-count.invariant.3)

pub frame_waits-requires : goal.frame_waits-requires
frame_waits-requires c =
    let ran : Run = record { cells = c.run-ran.new.cells; candidate = c.run-ran.result.candidate; used = c.run-ran.result.used; passed = c.run-ran.result.passed } in
    let bytes : List ℕ = c.args.bytes.now in
    let ran-is : ran ≡ run_to c.loop-count.cells c.loop-count.c (drop c.loop-count.used bytes) = run-tail c.loop-count.cells c.loop-count.c bytes c.loop-count.used ran c.run-ran.ensures in
    let sound : Sound ran = subst Sound (sym ran-is) (run_sound (drop c.loop-count.used bytes) c.loop-count.cells c.loop-count.invariant.0 c.loop-count.c c.loop-count.invariant.1) in
    (sound.long, from-accepted ran.candidate sound.fine)

-- ---- no frame waits
pub returns-then-not-frame_waits : goal.returns-then-not-frame_waits
returns-then-not-frame_waits c =
    let bytes : List ℕ = c.args.bytes.now in
    let room : ℕ = length c.args.rows.now / row_size in
    let whole : Turns = in_turns room (going c.args.cells.now c.args.from) bytes in
    let ran : Run = record { cells = c.run-ran.new.cells; candidate = c.run-ran.result.candidate; used = c.run-ran.result.used; passed = c.run-ran.result.passed } in
    let ran-is : ran ≡ run_to c.loop-count.cells c.loop-count.c (drop c.loop-count.used bytes) = run-tail c.loop-count.cells c.loop-count.c bytes c.loop-count.used ran c.run-ran.ensures in
    let sound : Sound ran = subst Sound (sym ran-is) (run_sound (drop c.loop-count.used bytes) c.loop-count.cells c.loop-count.invariant.0 c.loop-count.c c.loop-count.invariant.1) in
    let more : c.loop-count.count < room = c.loop-count-test.true in
    let left : room - c.loop-count.count ≡ suc (room - (c.loop-count.count + 1)) = omega (arith, more) in
    let x = ran in
    let none = turn-none _ _ left c.loop-count.cells c.loop-count.c (from-accepted c.loop-count.c c.loop-count.invariant.1) (drop c.loop-count.used bytes) x ran-is
    (from-accepted x.candidate sound.fine) (sym c.frame_waits.ensures ∙ c.if-not-frame_waits.true) in
    let said = far-end whole _ c.loop-count.rows c.loop-count.used c.loop-count.passed c.loop-count.count _ c.loop-count.invariant.5 x.cells x.candidate x.used x.passed none in
    record { result_after = said.0; rows_after = said.1 }

pub overflow_mul-count : goal.overflow_mul-count
overflow_mul-count c =
    let rows_fit : length c.args.rows.now < 2 ^ 64 = omega arith in
    let room : ℕ = length c.args.rows.now / row_size in
    let more : c.loop-count.count < room = c.loop-count-test.true in
    let inside : row_size * c.loop-count.count + row_size ≤ length c.args.rows.now = omega (arith, more) in
    omega (arith, inside, rows_fit)

pub take_row-c-requires : goal.take_row-c-requires
take_row-c-requires c =
    let ran : Run = record { cells = c.run-ran.new.cells; candidate = c.run-ran.result.candidate; used = c.run-ran.result.used; passed = c.run-ran.result.passed } in
    let bytes : List ℕ = c.args.bytes.now in
    let ran-is : ran ≡ run_to c.loop-count.cells c.loop-count.c (drop c.loop-count.used bytes) = run-tail c.loop-count.cells c.loop-count.c bytes c.loop-count.used ran c.run-ran.ensures in
    let sound : Sound ran = subst Sound (sym ran-is) (run_sound (drop c.loop-count.used bytes) c.loop-count.cells c.loop-count.invariant.0 c.loop-count.c c.loop-count.invariant.1) in
    let room : ℕ = length c.args.rows.now / row_size in
    let more : c.loop-count.count < room = c.loop-count-test.true in
    let inside : row_size * c.loop-count.count + row_size ≤ length c.args.rows.now = omega (arith, more) in
    let waits : frame_waits (going ran.cells ran.candidate) ≡ true = sym c.frame_waits.ensures ∙ c.if-not-frame_waits.false in
    let stands = waits-stands ran.cells ran.candidate waits in
    (sound.long, sound.fine.top, sound.fine.low, stands, omega (arith, inside, c.loop-count.invariant.4))

pub loop-count-preserved : goal.loop-count-preserved
loop-count-preserved c =
    let bytes : List ℕ = c.args.bytes.now in
    let room : ℕ = length c.args.rows.now / row_size in
    let whole : Turns = in_turns room (going c.args.cells.now c.args.from) bytes in
    let ran : Run = record { cells = c.run-ran.new.cells; candidate = c.run-ran.result.candidate; used = c.run-ran.result.used; passed = c.run-ran.result.passed } in
    let ran-is : ran ≡ run_to c.loop-count.cells c.loop-count.c (drop c.loop-count.used bytes) = run-tail c.loop-count.cells c.loop-count.c bytes c.loop-count.used ran c.run-ran.ensures in
    let sound : Sound ran = subst Sound (sym ran-is) (run_sound (drop c.loop-count.used bytes) c.loop-count.cells c.loop-count.invariant.0 c.loop-count.c c.loop-count.invariant.1) in
    let counts : (ran.used ≤ length (drop c.loop-count.used bytes)) × (ran.passed ≤ ran.used) = subst (λ x. (x.used ≤ length (drop c.loop-count.used bytes)) × (x.passed ≤ x.used)) (sym ran-is)
    (run-counts (drop c.loop-count.used bytes) c.loop-count.cells c.loop-count.c) in
    let fits : c.loop-count.used + ran.used ≤ length bytes = omega (arith, counts.0, length-drop c.loop-count.used bytes, c.loop-count.invariant.2) in
    let more : c.loop-count.count < room = c.loop-count-test.true in
    let left : room - c.loop-count.count ≡ suc (room - (c.loop-count.count + 1)) = omega (arith, more) in
    let waits : frame_waits (going ran.cells ran.candidate) ≡ true = sym c.frame_waits.ensures ∙ c.if-not-frame_waits.false in
    let x = ran in
    let k = room - (c.loop-count.count + 1) in
    let next = c.take_row-c.ensures.value in
    let put = c.take_row-c.ensures.rows_after in
    let on = turn_on _ k left c.loop-count.cells c.loop-count.c (from-accepted c.loop-count.c c.loop-count.invariant.1) (drop c.loop-count.used bytes) x ran-is
    (from-accepted x.candidate sound.fine) waits c.take_row-c.result next in
    let far = far-on whole _ c.loop-count.rows c.loop-count.used c.loop-count.passed c.loop-count.count _ c.loop-count.invariant.5
    (in_turns k (going x.cells c.take_row-c.result) (drop x.used (drop c.loop-count.used bytes))) x.used x.passed x.candidate.at
    (frame_at (candidate_bits x.cells x.candidate)) _ put on in (
      sound.long,
      subst Accepted (sym next) (accepted-take x.cells sound.long x.candidate sound.fine false),
      fits,
      omega (arith, counts.1, c.loop-count.invariant.3),
      ap length put ∙ length-sets c.loop-count.rows (row_size * c.loop-count.count) (row_of x.candidate.at (frame_at (candidate_bits x.cells x.candidate))) ∙ c.loop-count.invariant.4,
      far-drop k (going x.cells c.take_row-c.result) x.used c.loop-count.used bytes far,
    )

-- ---- there is no room for a row
pub returns : goal.returns
returns c =
    let a = c.args in
    let room : ℕ = length a.rows.now / row_size in
    let whole : Turns = in_turns room (going a.cells.now a.from) a.bytes.now in
    let rest : ℕ → Turns = λ n. in_turns (room - n) (going c.loop-count.cells c.loop-count.c) (drop c.loop-count.used a.bytes.now) in
    let all : c.loop-count.count ≡ room = omega arith in
    let far = subst (λ n. Far whole a.rows.now c.loop-count.rows c.loop-count.used c.loop-count.passed n (rest n)) all c.loop-count.invariant.5 in
    let said = far-full whole a.rows.now c.loop-count.rows c.loop-count.used c.loop-count.passed room _ c.loop-count.cells c.loop-count.c (drop c.loop-count.used a.bytes.now) (omega arith) far in
    record { result_after = said.0; rows_after = said.1 }

pub slice_bounds-run-count : goal.slice_bounds-run-count
slice_bounds-run-count c = c.loop-count.invariant.2

pub shape_of-rows-then-not-frame_waits : goal.shape_of-rows-then-not-frame_waits
shape_of-rows-then-not-frame_waits c = c.loop-count.invariant.4

pub shape_of-rows : goal.shape_of-rows
shape_of-rows c = c.loop-count.invariant.4
