-- `put_head` meets its contract: nine bytes copied to the rows. Assumes nothing.
use Rattle.std.proofs.Common.{arith}
use Rattle.reader.proofs.RowLaws.{head_of, put-sets}
use Rattle.reader.proofs.rows.put_head.Goals as goal

pub returns : goal.returns
returns c =
    let a = c.args in
    rw (c.copy_from_slice.ensures.after, c.to_le_bytes.ensures)
    (put-sets a.rows.now a.start _ (head_of a.at a.pair a.n) (omega arith) (omega arith))
