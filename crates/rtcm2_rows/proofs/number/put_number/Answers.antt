-- `put_number` meets its contract: the first of the library's bytes. Assumes nothing.
use Rattle.rtcm2_rows.proofs.NumberLaws.{put-law}
use Rattle.rtcm2_rows.proofs.number.put_number.Goals as goal

pub returns : goal.returns
returns c =
    let a = c.args in
    put-law a.bytes.now c.copy_from_slice.new.self c.to_le_bytes.result a.at a.size a.n c.requires.1 c.requires.0 c.copy_from_slice.ensures.after
    c.to_le_bytes.ensures
