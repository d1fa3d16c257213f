-- `put_row` meets its contract: 13, or the row is put. Assumes nothing.
use Rattle.rtcm2_rows.proofs.RowLaws.{put-short, put_whole}
use Rattle.rtcm2_season.specs.Rows.{report_row}
use Rattle.rtcm2_season.proofs.RowLaws.{length-row}
use Rattle.rtcm2_season.proofs.row.put_row.Goals as goal

pub returns-then-bytes-lt-SIZE : goal.returns-then-bytes-lt-SIZE
returns-then-bytes-lt-SIZE c =
    let said = let a = c.args in put-short report_row a.row a.bytes.now c.if-bytes-lt-SIZE.true in
    record { value = said.0; bytes_after = said.1 }

pub returns : goal.returns
returns c =
    let a = c.args in
    let said = put_whole report_row a.row a.bytes.now _ (length-row a.row) c.if-bytes-lt-SIZE.false c.put_row_at.ensures in
    record { value = said.0; bytes_after = said.1 }
