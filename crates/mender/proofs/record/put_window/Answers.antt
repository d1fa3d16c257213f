-- `put_window` meets its contract: its bytes are the library's. Assumes nothing.
use Rattle.std.proofs.Common.{◌∙◌, arith}
use Rattle.journal.proofs.TurnLaws.{store-lowest}
use Rattle.mender.proofs.record.put_window.Goals as goal

pub returns : goal.returns
returns c =
    let a = c.args in
    store-lowest 4 a.buffer.now a.at a.window (omega arith) c.requires (c.copy_from_slice.ensures.after ∙ c.to_be_bytes.ensures)
