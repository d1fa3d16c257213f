-- `stands_in` meets its contract: the tests of the header, then those of all words. Assumes nothing.
use Rattle.std.proofs.Common.{sym, ◌∙◌, arith}
use Rattle.bits.specs.Bits.{bits}
use Rattle.word.specs.Word.{data_of}
use Rattle.frame.proofs.HeaderLaws.{n-lt}
use Rattle.reader.proofs.TakeLaws.{too_short_lem, words-missing, headless-here, head-here, words-tell}
use Rattle.reader.proofs.taking.stands_in.Goals as goal

pub returns-then-held-lt62 : goal.returns-then-held-lt62
returns-then-held-lt62 c =
    let a = c.args in
    sym (too_short_lem a.cells.now c.requires.0 a.end c.requires.1 a.held c.requires.2 c.if-held-lt62.true)

pub overflow_mul-n : goal.overflow_mul-n
overflow_mul-n c = omega (arith, c.n_in-n.ensures, n-lt (data_of (bits 32 c.window.result)))

pub overflow_add-n : goal.overflow_add-n
overflow_add-n c = omega (arith, c.n_in-n.ensures, n-lt (data_of (bits 32 c.window.result)))

pub returns-then-held-n : goal.returns-then-held-n
returns-then-held-n c =
    let a = c.args in
    sym (words-missing a.cells.now c.requires.0 a.end c.requires.1 a.held c.requires.2 c.if-held-lt62.false c.window.result
    c.n_in-n.result c.window.ensures c.n_in-n.ensures c.if-held-n.true)

pub returns-then-not-has_preamble : goal.returns-then-not-has_preamble
returns-then-not-has_preamble c =
    let a = c.args in
    sym (headless-here a.cells.now c.requires.0 a.end c.requires.1 a.held c.requires.2 c.if-held-lt62.false c.window-2.result
    c.window-2.ensures c.data_of.result c.data_of.ensures c.has_preamble.result c.has_preamble.ensures
    c.if-not-has_preamble.true)

pub pass_all-requires : goal.pass_all-requires
pass_all-requires c =
    let a = c.args in
    let head = head-here a.cells.now c.requires.0 a.end c.requires.1 a.held c.requires.2 c.if-held-lt62.false c.window-2.result
    c.window-2.ensures c.data_of.result c.data_of.ensures c.has_preamble.result c.has_preamble.ensures in
    (c.requires.0, c.requires.1, c.requires.2, omega arith, sym head ∙ c.if-not-has_preamble.false)

pub returns : goal.returns
returns c =
    let a = c.args in
    c.pass_all.ensures
    ∙ sym (words-tell a.cells.now c.requires.0 a.end c.requires.1 a.held c.requires.2 c.if-held-lt62.false c.window.result
    c.n_in-n.result c.window.ensures c.n_in-n.ensures c.if-held-n.false)
