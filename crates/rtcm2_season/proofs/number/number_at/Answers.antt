-- `number_at` meets its contract: zeros past the bytes add nothing. Assumes nothing.
use mathlib.Core.Path.{refl}
use Rattle.rtcm2_rows.proofs.NumberLaws.{number-law}
use Rattle.rtcm2_season.proofs.number.number_at.Goals as goal

pub returns : goal.returns
returns c =
    let a = c.args in
    number-law a.bytes.now c.copy_from_slice.new.self a.at a.size a.size c.from_le_bytes.result c.requires.1 c.requires.0 refl
    c.copy_from_slice.ensures.after c.from_le_bytes.ensures
