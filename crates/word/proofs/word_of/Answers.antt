-- `word_of` meets its contract: the data turned over, then their parity. Assumes nothing.
use native.Mathlib.Omega.{arith}
use borrow.Author.Tests.{lt-leb}
use Rattle.bits.specs.Bits.{bits}
use Rattle.word.specs.Word.{d29*, d30*}
use Rattle.word.proofs.Computes.{turned_lt, parity-lt, sent-law}
use Rattle.word.proofs.word_of.Goals as goal

pub overflow_mul-result : goal.overflow_mul-result
overflow_mul-result c =
    let a = c.args in
    omega (arith, turned_lt (d30* (bits 2 a.carried)) (bits 24 a.«data»))

pub overflow_add-result : goal.overflow_add-result
overflow_add-result c =
    let a = c.args in
    omega (
      arith,
      turned_lt (d30* (bits 2 a.carried)) (bits 24 a.«data»),
      parity-lt (d29* (bits 2 a.carried)) (d30* (bits 2 a.carried)) (bits 24 a.«data»),
    )

pub returns : goal.returns
returns c =
    let a = c.args in
    simp (lt-leb _ _ c.if-carried-ge4.false, lt-leb _ _ c.if-data-ge16777216.false)
    (cc (sent-law (d29* (bits 2 a.carried)) (d30* (bits 2 a.carried)) (bits 24 a.«data»)))
