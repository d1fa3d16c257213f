-- `text_length` meets its contract: the last two characters decide. Assumes nothing.
use mathlib.Core.Path.{sym, ◌∙◌}
use Prim.Native.Nat.{◌*◌}
use Rattle.bits.specs.Rows.{data_bits}
use Rattle.record_texts.proofs.TextCode.{length-all, length-less, length-least}
use Rattle.record_texts.proofs.text_length.Goals as goal

pub returns-then-character-ne0 : goal.returns-then-character-ne0
returns-then-character-ne0 c =
    let a = c.args in
    sym (length-all (3 * a.n) (data_bits a.words) (λ e. c.if-character-ne0.true (c.character.ensures.0 ∙ e)))

pub returns-then-character-ne0-2 : goal.returns-then-character-ne0-2
returns-then-character-ne0-2 c =
    let a = c.args in
    sym (length-less (3 * a.n) (data_bits a.words) (sym c.character.ensures.0 ∙ c.if-character-ne0.false)
    (λ e. c.if-character-ne0-2.true (c.character-2.ensures.0 ∙ e)))

pub returns : goal.returns
returns c =
    let a = c.args in
    sym (length-least (3 * a.n) (data_bits a.words) (sym c.character.ensures.0 ∙ c.if-character-ne0.false)
    (sym c.character-2.ensures.0 ∙ c.if-character-ne0-2.false))
