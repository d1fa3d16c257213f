-- `whole` meets its contract: N of the second word, and the two of the header. Assumes nothing.
use Rattle.std.proofs.Common.{◌≡◌, ◌+◌, leb, sym, ap, arith}
use borrow.Author.Tests.{lt-leb}
use Rattle.bits.specs.Bits.{bits}
use Rattle.word.specs.Word.{data_of}
use Rattle.frame.proofs.HeaderLaws.{n-lt}
use Rattle.stream.specs.Standing.{size}
use Rattle.reader.specs.Cells.{held_bits}
use Rattle.reader.proofs.Steps.{n-is}
use Rattle.reader.proofs.hunt.whole.Goals as goal

pub returns-then-words-lt2 : goal.returns-then-words-lt2
returns-then-words-lt2 c =
    let a = c.args in
    sym (lt-leb (size (held_bits a.cells.now a.end a.left)) a.words (omega arith))

pub overflow_add-result : goal.overflow_add-result
overflow_add-result c = omega (arith, c.n_in-n.ensures, n-lt (data_of (bits 32 c.window.result)))

pub returns : goal.returns
returns c =
    let a = c.args in
    let n = n-is a.cells.now c.requires.0 a.end c.requires.1 a.left c.requires.2 c.window.result c.n_in-n.result (omega arith)
    c.window.ensures c.n_in-n.ensures in
    let all : c.n_in-n.result + 2 ≡ size (held_bits a.cells.now a.end a.left) = omega (arith, n) in
    ap (λ m. leb m a.words) all
