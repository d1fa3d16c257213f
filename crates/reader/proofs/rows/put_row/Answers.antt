-- `put_row` meets its contract: what stands before the words, then the words. Assumes nothing.
use Rattle.std.proofs.Common.{◌+◌, ◌-◌, ◌*◌, ◌≤◌, Bool, List, length, ap, ◌∙◌, arith}
use lib.Seq.{sets}
use Rattle.stream.specs.Standing.{Stands, data_from}
use Rattle.stream.proofs.Words.{n-lt}
use Rattle.stream.proofs.Stand.{test-stands}
use Rattle.journal.specs.Bytes.{written}
use Rattle.reader.specs.Reading.{candidate_bits}
use Rattle.reader.proofs.TakeLaws.{come-standing, pair-here}
use Rattle.reader.proofs.RowLaws.{store-row}
use Rattle.reader.proofs.rows.put_row.Goals as goal

pub window-requires : goal.window-requires
unfolding candidate_bits
window-requires c =
    let come : 62 + 30 * c.args.n ≤ c.args.c.held = omega (
      arith,
      c.requires.4,
      come-standing c.args.cells.now c.requires.0 c.args.c.end c.requires.1 c.args.c.held c.requires.2 c.requires.3,
    ) in
    let fits : c.args.c.end - c.args.c.held + 32 ≤ 1280 = omega (arith, come, c.requires.1, c.requires.2) in
    (c.requires.0, fits)

pub put_head-requires : goal.put_head-requires
put_head-requires c =
    let d : List Bool = candidate_bits c.args.cells.now c.args.c in
    let few : c.args.n ≤ 31 = omega (arith, c.requires.4, n-lt d) in
    let room : c.args.start + 9 ≤ length c.args.rows.now = omega (arith, c.requires.5) in
    (few, room)

pub overflow_add-n : goal.overflow_add-n
overflow_add-n c =
    let d : List Bool = candidate_bits c.args.cells.now c.args.c in
    let few : c.args.n ≤ 31 = omega (arith, c.requires.4, n-lt d) in
    omega (arith, few)

pub put_data-requires : goal.put_data-requires
unfolding candidate_bits
put_data-requires c =
    let d : List Bool = candidate_bits c.args.cells.now c.args.c in
    let few : c.args.n ≤ 31 = omega (arith, c.requires.4, n-lt d) in
    let come : 62 + 30 * c.args.n ≤ c.args.c.held = omega (
      arith,
      c.requires.4,
      come-standing c.args.cells.now c.requires.0 c.args.c.end c.requires.1 c.args.c.held c.requires.2 c.requires.3,
    ) in
    let all : 2 + 30 * (c.args.n + 2) ≤ c.args.c.held = omega (arith, come) in
    (c.requires.0, c.requires.1, c.requires.2, all, omega (arith, few, c.requires.5))

pub returns : goal.returns
unfolding candidate_bits
returns c =
    let d : List Bool = candidate_bits c.args.cells.now c.args.c in
    let stand : Stands d = test-stands d c.requires.3 in
    let come : 62 + 30 * c.args.n ≤ c.args.c.held = omega (
      arith,
      c.requires.4,
      come-standing c.args.cells.now c.requires.0 c.args.c.end c.requires.1 c.args.c.held c.requires.2 c.requires.3,
    ) in
    let a = c.args in
    let some : 62 ≤ a.c.held = omega (arith, come) in
    c.put_data.ensures
    ∙ ap (λ l. sets l (a.start + 9) (written 3 (data_from (a.n + 2) 0 d))) c.put_head.ensures
    ∙ store-row a.rows.now a.start a.c.at a.n c.pair_of-pair.result d stand
    (pair-here a.cells.now c.requires.0 a.c.end c.requires.1 a.c.held c.requires.2 some c.window.result c.window.ensures
    c.pair_of-pair.result c.pair_of-pair.ensures) c.requires.4
