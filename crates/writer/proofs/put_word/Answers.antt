-- `put_word` meets its contract: within its widths no word is refused, and its number is stored. Assumes nothing.
use mathlib.Core.Path.{sym, ◌∙◌}
use Rattle.word.proofs.Computes.{word-answers, never-refused}
use Rattle.writer.proofs.Carrying.{bytes_word}
use Rattle.writer.proofs.put_word.Goals as goal

pub returns-in_default : goal.returns-in_default
returns-in_default c =
    let refused = sym c.word_of.ensures ∙ c.in_default.is in
    absurd (never-refused c.args.carried c.args.«data» _ c.requires.carried_bound c.requires.data_bound refused)

pub returns : goal.returns
returns c =
    let a = c.args in
    let told = word-answers a.carried a.«data» c.requires.carried_bound c.requires.data_bound in
    record { value = cc; buffer_after = cc (bytes_word a.carried a.«data») }
