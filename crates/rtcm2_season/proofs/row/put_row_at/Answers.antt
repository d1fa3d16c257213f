-- `put_row_at` meets its contract: the row's numbers are put in two parts. Assumes nothing.
use Rattle.rtcm2_season.proofs.RowLaws.{put-parts}
use Rattle.rtcm2_season.proofs.row.put_row_at.Goals as goal

pub returns : goal.returns
returns c =
    let a = c.args in
    put-parts a.row c.numbers_of-numbers.result a.bytes.now a.at c.numbers_of-numbers.ensures c.put_key.ensures c.put_ends.ensures
