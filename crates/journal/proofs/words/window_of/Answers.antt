-- `window_of` meets its contract: within its widths no word is refused, and its number stands behind the carried bits. Assumes nothing.
use mathlib.Core.Path.{sym, ap, ◌∙◌}
use Prim.Native.Nat.{◌+◌, ◌*◌, ◌^◌}
use native.Mathlib.Omega.{arith}
use Rattle.word.proofs.Computes.{never-refused}
use Rattle.journal.specs.Words.{window_of}
use Rattle.journal.proofs.WindowLaws.{sent-lt, sent-told}
use Rattle.journal.proofs.words.window_of.Goals as goal

pub returns-in_default : goal.returns-in_default
returns-in_default c =
    let refused = sym c.word_of.ensures ∙ c.in_default.is in
    absurd (never-refused c.args.carried c.args.«data» _ c.requires.carried_bound c.requires.data_bound refused)

pub overflow_add-result : goal.overflow_add-result
overflow_add-result c =
    let is = sent-told c.args.carried c.args.«data» _ c.requires.carried_bound c.requires.data_bound (sym c.word_of.ensures ∙ c.in-Ok.is) in
    omega (arith, is, sent-lt c.args.carried c.args.«data», c.requires)

pub returns : goal.returns
unfolding window_of
returns c =
    ap (λ n. c.args.carried * 2 ^ 30 + n)
    (sent-told c.args.carried c.args.«data» _ c.requires.carried_bound c.requires.data_bound (sym c.word_of.ensures ∙ c.in-Ok.is))
