-- `known` meets its contract: what is remembered of the next candidate's phase. Assumes nothing.
use Rattle.std.proofs.Common.{sym, ◌∙◌, arith}
use borrow.Author.Tests.{not-false}
use Rattle.bits.specs.Bits.{bits}
use Rattle.word.specs.Word.{data_of}
use Rattle.frame.proofs.HeaderLaws.{n-lt}
use Rattle.reader.proofs.Remembering.{knows-none, knows_some}
use Rattle.reader.proofs.Steps.{n-is}
use Rattle.reader.proofs.hunt.known.Goals as goal

pub returns-then-left-lt62 : goal.returns-then-left-lt62
returns-then-left-lt62 c =
    knows-none c.args.cells.now c.requires.0 c.args.end c.requires.1 c.args.left c.requires.2

pub returns-then-fail-bit : goal.returns-then-fail-bit
returns-then-fail-bit c =
    knows-none c.args.cells.now c.requires.0 c.args.end c.requires.1 c.args.left c.requires.2

pub returns-then-lacks_preamble : goal.returns-then-lacks_preamble
returns-then-lacks_preamble c =
    knows-none c.args.cells.now c.requires.0 c.args.end c.requires.1 c.args.left c.requires.2

pub overflow_add-n : goal.overflow_add-n
overflow_add-n c = omega (arith, c.n_in-n.ensures, n-lt (data_of (bits 32 c.window-2.result)))

pub returns : goal.returns
returns c =
    let a = c.args in
    knows_some a.cells.now c.requires.0 a.end c.requires.1 a.left c.requires.2 a.fails.now c.requires.4 c.window.result
    c.n_in-n.result c.from-fail.result c.min.result c.window.ensures
    (not-false _ (sym c.lacks_preamble.ensures ∙ c.if-lacks_preamble.false))
    (n-is a.cells.now c.requires.0 a.end c.requires.1 a.left c.requires.2 c.window-2.result c.n_in-n.result (omega arith)
    c.window-2.ensures c.n_in-n.ensures)
    (omega (arith, c.from-fail.ensures)) (omega (arith, c.min.ensures)) (omega (arith, c.min.ensures))
