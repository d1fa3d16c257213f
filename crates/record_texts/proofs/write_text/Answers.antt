-- `write_text` meets its contract: each character of the text is that of the data. Assumes nothing.
use mathlib.Core.Path.{sym, ◌∙◌}
use native.Mathlib.Omega.{arith}
use lib.ListN.{length}
use Rattle.std.proofs.lemmas.Grind.{same_number_lists}
use Rattle.bits.specs.Rows.{data_bits}
use Rattle.record_texts.specs.Texts.{characters}
use Rattle.record_texts.proofs.TextCode.{length-characters, character-at}
use Rattle.record_texts.proofs.write_text.Goals as goal

pub returns : goal.returns
returns c =
    let n = length c.args.text.now in
    let bs = data_bits c.args.words in
    same_number_lists c.loop-i.text (characters n bs) (omega (arith, length-characters n bs))
    (λ k h. c.loop-i.invariant k (omega arith) ∙ sym (character-at n k bs (omega arith)))
