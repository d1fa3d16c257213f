-- `pair_after` meets its contract: two cells before the six bits, one of them, or the two that they are put into. Assumes nothing.
use mathlib.Core.Path.{◌≡◌, ap, ◌∙◌}
use mathlib.Core.List.{List}
use Prim.Native.Nat.{ℕ, ◌+◌, ◌*◌, ◌/◌, ◌%◌}
use native.Mathlib.Omega.{arith}
use lib.ListN.{length, drop, get_or}
use Rattle.reader.specs.Cells.{put_pair}
use Rattle.rtcm2_state.specs.Numbers.{numbers_in}
use Rattle.rtcm2_state.specs.State.{start_size}
use Rattle.rtcm2_state.proofs.NumberLaws.{length-numbers}
use Rattle.rtcm2_state.proofs.CellsAfter.{cell_at, pair-before, pair-across, pair-last}
use Rattle.rtcm2_state.proofs.hold.pair_after.Goals as goal

pub returns-then-k-last : goal.returns-then-k-last
returns-then-k-last c =
    let cells : List ℕ = numbers_in 40 (drop start_size c.args.bytes.now) in
    let full : length cells ≡ 40 = length-numbers 40 (drop start_size c.args.bytes.now) in
    let first : c.from-first.result ≡ get_or cells c.args.k 0 = c.from-first.ensures
    ∙ cell_at c.args.bytes.now c.args.k c.number_at.result (start_size + 4 * c.args.k)
    (omega (arith, c.requires.1, c.requires.2))
    (omega arith) c.number_at.ensures in
    let a = c.args in
    let second = c.from.ensures
    ∙ cell_at a.bytes.now (a.k + 1) c.number_at-then-k-last.result (start_size + 4 * a.k + 4) (omega (arith, c.if-k-last.true, c.requires.2))
    (omega arith) c.number_at-then-k-last.ensures in
    pair-before cells full a.end a.six c.requires.2 a.k c.from-first.result c.from.result c.if-k-last.true first
    (omega (arith, c.from-first.ensures)) second (omega (arith, c.from.ensures))

pub returns-then-k-last-2 : goal.returns-then-k-last-2
returns-then-k-last-2 c =
    let cells : List ℕ = numbers_in 40 (drop start_size c.args.bytes.now) in
    let full : length cells ≡ 40 = length-numbers 40 (drop start_size c.args.bytes.now) in
    let both : c.with_six-both.result ≡ put_pair (get_or cells (c.args.end / 32) 0) (c.args.end % 32) c.args.six = let a = c.args in
    c.with_six-both.ensures
    ∙ ap (λ n. put_pair n (a.end % 32) a.six)
    (cell_at a.bytes.now (a.end / 32) c.number_at-2.result (start_size + 4 * (a.end / 32))
    (omega (arith, c.requires.2)) (omega arith)
    c.number_at-2.ensures) in
    let a = c.args in
    pair-last cells full a.end a.six c.requires.2 a.k c.with_six-both.result (omega (arith, c.if-k-last-2.true)) both

pub returns : goal.returns
returns c =
    let cells : List ℕ = numbers_in 40 (drop start_size c.args.bytes.now) in
    let full : length cells ≡ 40 = length-numbers 40 (drop start_size c.args.bytes.now) in
    let first : c.from-first.result ≡ get_or cells c.args.k 0 = c.from-first.ensures
    ∙ cell_at c.args.bytes.now c.args.k c.number_at.result (start_size + 4 * c.args.k)
    (omega (arith, c.requires.1, c.requires.2))
    (omega arith) c.number_at.ensures in
    let both : c.with_six-both.result ≡ put_pair (get_or cells (c.args.end / 32) 0) (c.args.end % 32) c.args.six = let a = c.args in
    c.with_six-both.ensures
    ∙ ap (λ n. put_pair n (a.end % 32) a.six)
    (cell_at a.bytes.now (a.end / 32) c.number_at-2.result (start_size + 4 * (a.end / 32))
    (omega (arith, c.requires.2)) (omega arith)
    c.number_at-2.ensures) in
    let a = c.args in
    pair-across cells full a.end a.six c.requires.2 a.k c.from-first.result c.with_six-both.result
    (omega (arith, c.if-k-last-2.false, c.if-k-last.false, c.requires.1)) first (omega (arith, c.from-first.ensures)) both
