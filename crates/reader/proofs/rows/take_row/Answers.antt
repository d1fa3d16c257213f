-- `take_row` meets its contract: N, the row, and the hunt from the bit after the frame. Assumes nothing.
use Rattle.std.proofs.Common.{◌≡◌, ◌+◌, ◌*◌, ◌<◌, ◌≤◌, arith}
use Rattle.stream.specs.Standing.{n_at}
use Rattle.reader.specs.Reading.{candidate_bits}
use Rattle.reader.proofs.Turning.{header-come, count-here, all_come, goes_on}
use Rattle.reader.proofs.rows.take_row.Goals as goal

pub window-requires : goal.window-requires
window-requires c =
    (c.requires.0, omega (arith, header-come c.args.cells.now c.requires.0 c.args.c c.requires.1 c.requires.2 c.requires.3, c.requires.1, c.requires.2))

pub put_row-requires : goal.put_row-requires
put_row-requires c =
    let is : c.n_in-n.result ≡ n_at (candidate_bits c.args.cells.now c.args.c) = count-here c.args.cells.now c.requires.0 c.args.c c.requires.1 c.requires.2 c.requires.3 c.window.result c.n_in-n.result
    c.window.ensures c.n_in-n.ensures in
    (c.requires.0, c.requires.1, c.requires.2, c.requires.3, is, c.requires.4)

pub overflow_add-n : goal.overflow_add-n
overflow_add-n c =
    let is : c.n_in-n.result ≡ n_at (candidate_bits c.args.cells.now c.args.c) = count-here c.args.cells.now c.requires.0 c.args.c c.requires.1 c.requires.2 c.requires.3 c.window.result c.n_in-n.result
    c.window.ensures c.n_in-n.ensures in
    let come : (c.n_in-n.result < 32) × (30 * (c.n_in-n.result + 2) ≤ c.args.c.held) = all_come c.args.cells.now c.requires.0 c.args.c c.requires.1 c.requires.2 c.requires.3 c.n_in-n.result is in
    omega (arith, come.0)

pub overflow_mul-n : goal.overflow_mul-n
overflow_mul-n c =
    let is : c.n_in-n.result ≡ n_at (candidate_bits c.args.cells.now c.args.c) = count-here c.args.cells.now c.requires.0 c.args.c c.requires.1 c.requires.2 c.requires.3 c.window.result c.n_in-n.result
    c.window.ensures c.n_in-n.ensures in
    let come : (c.n_in-n.result < 32) × (30 * (c.n_in-n.result + 2) ≤ c.args.c.held) = all_come c.args.cells.now c.requires.0 c.args.c c.requires.1 c.requires.2 c.requires.3 c.n_in-n.result is in
    omega (arith, come.0)

pub overflow_sub-c-2 : goal.overflow_sub-c-2
overflow_sub-c-2 c =
    let is : c.n_in-n.result ≡ n_at (candidate_bits c.args.cells.now c.args.c) = count-here c.args.cells.now c.requires.0 c.args.c c.requires.1 c.requires.2 c.requires.3 c.window.result c.n_in-n.result
    c.window.ensures c.n_in-n.ensures in
    let come : (c.n_in-n.result < 32) × (30 * (c.n_in-n.result + 2) ≤ c.args.c.held) = all_come c.args.cells.now c.requires.0 c.args.c c.requires.1 c.requires.2 c.requires.3 c.n_in-n.result is in
    come.1

pub returns : goal.returns
returns c =
    let is : c.n_in-n.result ≡ n_at (candidate_bits c.args.cells.now c.args.c) = count-here c.args.cells.now c.requires.0 c.args.c c.requires.1 c.requires.2 c.requires.3 c.window.result c.n_in-n.result
    c.window.ensures c.n_in-n.ensures in
    let after = goes_on c.args.cells.now c.requires.0 c.args.c c.requires.1 c.requires.2 c.requires.3 c.n_in-n.result is
    c.hunt-halt.result c.hunt-halt.ensures.0 c.moved.result c.moved.ensures in
    record { value = after; rows_after = c.put_row.ensures }
