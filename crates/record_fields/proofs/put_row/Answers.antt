-- `put_row` meets its contract: the values pushed, and the range held. Assumes nothing.
use Rattle.record_fields.specs.Tables.{put_row}
use Rattle.record_fields.proofs.put_row.Goals as goal

pub returns-then-rows : goal.returns-then-rows
unfolding put_row
returns-then-rows c = rw c.if-rows.true (cc)

pub returns-else-rows : goal.returns-else-rows
unfolding put_row
returns-else-rows c = rw c.if-rows.false (cc)
