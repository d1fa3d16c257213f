-- `put_bits` meets its contract: five bytes copied to their place, the highest six bits first. Assumes nothing.
use mathlib.Core.Path.{◌∙◌}
use Rattle.writer.proofs.Bytes.{put_five_lem}
use Rattle.writer.proofs.put_bits.Goals as goal

pub returns : goal.returns
returns c =
    let a = c.args in
    put_five_lem a.buffer.now a.at a.word c.requires (c.copy_from_slice.ensures.after ∙ cc)
