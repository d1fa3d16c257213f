-- `window_at` meets its contract: its bytes as the library reads them. Assumes nothing.
use Rattle.std.proofs.Common.{◌∙◌, arith}
use Rattle.mender.proofs.RecordLaws.{read-four}
use Rattle.mender.proofs.record.window_at.Goals as goal

pub returns : goal.returns
returns c =
    let a = c.args in
    c.from_be_bytes.ensures ∙ read-four a.bytes.now a.at c.requires (λ j. omega (arith, c.type_inv.bytes j)) c.copy_from_slice.ensures.after
