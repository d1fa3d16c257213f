-- `put_record` meets its contract: the mark, N, and the words after mending. Assumes nothing.
use Rattle.std.proofs.Common.{◌+◌, length, drop, set, ap, ◌∙◌, arith, length-set}
use lib.Seq.{length-sets}
use Rattle.mender.proofs.RecordLaws.{mended_words, store-start, three-long}
use Rattle.mender.proofs.record.put_record.Goals as goal

pub bounds-copy-1 : goal.bounds-copy-1
bounds-copy-1 c = simp length-set (omega arith)

pub bounds-copy-2 : goal.bounds-copy-2
bounds-copy-2 c = simp length-set (omega arith)

pub put_words-requires : goal.put_words-requires
put_words-requires c =
    let a = c.args in
    record { count_bound = omega arith; count_in_bounds = (omega arith, omega (arith, three-long a.copy.now a.n)) }

pub shape_of-copy : goal.shape_of-copy
shape_of-copy c =
    let a = c.args in
    let start = set (set (set a.copy.now 0 82) 1 52) 2 a.n in
    ap length c.put_words.ensures ∙ length-sets start 3 (mended_words (a.n + 2) (drop 3 a.bytes.now)) ∙ three-long a.copy.now a.n

pub returns : goal.returns
returns c =
    let a = c.args in
    c.put_words.ensures ∙ store-start a.copy.now a.bytes.now a.n
