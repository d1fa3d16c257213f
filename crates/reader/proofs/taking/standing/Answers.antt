-- `standing` meets its contract: the tests of the header, then `filled`. Assumes nothing.
use Rattle.std.proofs.Common.{◌≡◌, true, sym, ap, ◌∙◌, arith}
use Rattle.bits.specs.Bits.{bits}
use Rattle.word.specs.Word.{data_of}
use Rattle.frame.specs.Header.{preambled, n_of}
use Rattle.frame.proofs.HeaderLaws.{n-lt}
use Rattle.stream.specs.Standing.{word_at}
use Rattle.reader.specs.Cells.{held_bits}
use Rattle.reader.proofs.Leaves.{bits-data}
use Rattle.reader.proofs.TakeLaws.{there-none, too_short_lem, words-missing, headless-here, head-here, pair-here, header-here, n-here}
use Rattle.reader.proofs.TakeLaws.{header-pass, header-fail}
use Rattle.reader.proofs.taking.standing.Goals as goal

pub returns-then-held-lt62 : goal.returns-then-held-lt62
returns-then-held-lt62 c =
    let a = c.args in
    there-none _ (too_short_lem a.cells.now c.requires.0 a.end c.requires.1 a.held c.requires.2 c.if-held-lt62.true)

pub overflow_mul-n : goal.overflow_mul-n
overflow_mul-n c =
    let n-is : c.n_of-n.result ≡ n_of (data_of (bits 32 c.window-two.result)) = c.n_of-n.ensures ∙ ap n_of (bits-data c.window-two.result _ c.data_of-second.ensures) in
    omega (arith, n-is, n-lt (data_of (bits 32 c.window-two.result)))

pub overflow_add-n : goal.overflow_add-n
overflow_add-n c =
    let n-is : c.n_of-n.result ≡ n_of (data_of (bits 32 c.window-two.result)) = c.n_of-n.ensures ∙ ap n_of (bits-data c.window-two.result _ c.data_of-second.ensures) in
    omega (arith, n-is, n-lt (data_of (bits 32 c.window-two.result)))

pub returns-then-held-n : goal.returns-then-held-n
returns-then-held-n c =
    let n-is : c.n_of-n.result ≡ n_of (data_of (bits 32 c.window-two.result)) = c.n_of-n.ensures ∙ ap n_of (bits-data c.window-two.result _ c.data_of-second.ensures) in
    let a = c.args in
    there-none _ (words-missing a.cells.now c.requires.0 a.end c.requires.1 a.held c.requires.2 c.if-held-lt62.false c.window-two.result
    c.n_of-n.result c.window-two.ensures n-is c.if-held-n.true)

pub returns-then-not-has_preamble : goal.returns-then-not-has_preamble
returns-then-not-has_preamble c =
    let a = c.args in
    there-none _ (headless-here a.cells.now c.requires.0 a.end c.requires.1 a.held c.requires.2 c.if-held-lt62.false c.window-one.result
    c.window-one.ensures c.data_of-first.result c.data_of-first.ensures c.has_preamble.result c.has_preamble.ensures
    c.if-not-has_preamble.true)

pub returns-then-left_over-ne0 : goal.returns-then-left_over-ne0
returns-then-left_over-ne0 c =
    let n-is : c.n_of-n.result ≡ n_of (data_of (bits 32 c.window-two.result)) = c.n_of-n.ensures ∙ ap n_of (bits-data c.window-two.result _ c.data_of-second.ensures) in
    let head : let a = c.args in preambled (data_of (word_at 0 (held_bits a.cells.now a.end a.held))) ≡ true = let a = c.args in
    sym (head-here a.cells.now c.requires.0 a.end c.requires.1 a.held c.requires.2 c.if-held-lt62.false c.window-one.result
    c.window-one.ensures c.data_of-first.result c.data_of-first.ensures c.has_preamble.result c.has_preamble.ensures)
    ∙ c.if-not-has_preamble.false in
    let a = c.args in
    there-none _ (header-fail a.cells.now c.requires.0 a.end c.requires.1 a.held c.requires.2 c.if-held-lt62.false c.window-two.result
    c.n_of-n.result c.window-two.ensures n-is c.if-held-n.false c.window-one.result c.left_over.result
    c.window-one.ensures head c.left_over.ensures c.if-left_over-ne0.true)

pub filled-requires : goal.filled-requires
filled-requires c =
    let n-is : c.n_of-n.result ≡ n_of (data_of (bits 32 c.window-two.result)) = c.n_of-n.ensures ∙ ap n_of (bits-data c.window-two.result _ c.data_of-second.ensures) in
    let head : let a = c.args in preambled (data_of (word_at 0 (held_bits a.cells.now a.end a.held))) ≡ true = let a = c.args in
    sym (head-here a.cells.now c.requires.0 a.end c.requires.1 a.held c.requires.2 c.if-held-lt62.false c.window-one.result
    c.window-one.ensures c.data_of-first.result c.data_of-first.ensures c.has_preamble.result c.has_preamble.ensures)
    ∙ c.if-not-has_preamble.false in
    let a = c.args in
    let pair = pair-here a.cells.now c.requires.0 a.end c.requires.1 a.held c.requires.2 c.if-held-lt62.false c.window-one.result
    c.window-one.ensures c.pair_of-carried.result c.pair_of-carried.ensures in
    let words = header-here a.cells.now c.requires.0 a.end c.requires.1 a.held c.requires.2 c.if-held-lt62.false c.window-one.result
    c.window-one.ensures c.data_of-first.result c.data_of-first.ensures c.window-two.result c.data_of-second.result
    c.window-two.ensures c.data_of-second.ensures c.header_of-header.result c.header_of-header.ensures in
    let count = n-here a.cells.now c.requires.0 a.end c.requires.1 a.held c.requires.2 c.if-held-lt62.false c.window-two.result
    c.n_of-n.result c.window-two.ensures n-is in
    let rest = header-pass a.cells.now c.requires.0 a.end c.requires.1 a.held c.requires.2 c.if-held-lt62.false c.window-two.result
    c.n_of-n.result c.window-two.ensures n-is c.if-held-n.false c.window-one.result c.left_over.result
    c.window-one.ensures head c.left_over.ensures c.if-left_over-ne0.false in
    (c.requires.0, c.requires.1, c.requires.2, record { pair = pair; words = words; count = count; head = head; rest = rest }, c.if-held-n.false)
