-- `put_report` meets its contract: 5, 13, else how many rows are in use and then the rows are put. Assumes nothing.
use Rattle.rtcm2_season.proofs.ReportLaws.{put-over, put-short, put_whole}
use Rattle.rtcm2_season.proofs.put_report.Goals as goal

pub returns-then-report-gt512 : goal.returns-then-report-gt512
returns-then-report-gt512 c =
    let said = let a = c.args in put-over a.report a.bytes.now c.if-report-gt512.true in
    record { value = said.0; bytes_after = said.1 }

pub returns-then-bytes-lt-SIZE : goal.returns-then-bytes-lt-SIZE
returns-then-bytes-lt-SIZE c =
    let a = c.args in
    let said = put-short a.report a.bytes.now c.if-report-gt512.false c.if-bytes-lt-SIZE.true in
    record { value = said.0; bytes_after = said.1 }

pub returns : goal.returns
returns c =
    let a = c.args in
    let said = put_whole a.report a.bytes.now c.if-report-gt512.false c.if-bytes-lt-SIZE.false c.put_rows.ensures.1 c.put_number.ensures c.put_rows.ensures.0 in
    record { value = said.0; bytes_after = said.1 }
