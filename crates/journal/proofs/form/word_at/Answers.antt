-- `word_at` meets its contract: bytes behind zeros are the word that they write. Assumes nothing.
use mathlib.Core.Path.{◌∙◌}
use native.Mathlib.Omega.{arith}
use Rattle.journal.proofs.TurnLaws.{read-word}
use Rattle.journal.proofs.form.word_at.Goals as goal

pub returns : goal.returns
returns c =
    let a = c.args in
    c.from_be_bytes.ensures ∙ read-word a.size a.bytes.now a.at c.requires.0 c.requires.1 (λ j. omega (arith, c.type_inv.bytes j)) c.copy_from_slice.ensures.after
