-- `mend_word` meets its contract: the word test, the weight of its remainder, and the bit that it names. Assumes nothing.
use mathlib.Core.Path.{sym, ◌∙◌}
use Rattle.mender_words.proofs.Mending.{is-sound, below, is-broken, odd-six, is-mended}
use Rattle.mender_words.proofs.mend_word.Goals as goal

pub returns-in_default : goal.returns-in_default
returns-in_default c = is-sound _ (sym c.test.ensures ∙ c.in_default.is)

pub returns-then-remainder-eq0 : goal.returns-then-remainder-eq0
returns-then-remainder-eq0 c =
    is-broken _ _ (sym c.test.ensures ∙ c.in-Err.is) c.if-remainder-eq0.true

pub bit_of-requires : goal.bit_of-requires
bit_of-requires c =
    let e = sym c.test.ensures ∙ c.in-Err.is in
    (below _ _ e, odd-six _ _ e c.if-remainder-eq0.false)

pub returns : goal.returns
returns c =
    is-mended _ _ (sym c.test.ensures ∙ c.in-Err.is) c.if-remainder-eq0.false c.bit_of.ensures
