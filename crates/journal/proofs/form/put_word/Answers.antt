-- `put_word` meets its contract: its lowest bytes are the last of its four. Assumes nothing.
use mathlib.Core.Path.{ap, ◌∙◌}
use Prim.Native.Nat.{◌-◌}
use lib.ListN.{take, drop}
use Rattle.journal.proofs.TurnLaws.{store-lowest}
use Rattle.journal.proofs.form.put_word.Goals as goal

pub returns : goal.returns
returns c =
    let a = c.args in
    store-lowest a.size a.buffer.now a.at a.word c.requires.0 c.requires.1
    (c.copy_from_slice.ensures.after ∙ ap (λ bs. take (4 - (4 - a.size)) (drop (4 - a.size) bs)) c.to_be_bytes.ensures)
