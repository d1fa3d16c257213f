-- `readiness` meets its contract: 5, 3, 2 in their order. Assumes nothing.
use Rattle.std.proofs.Common.{sym, ◌∙◌}
use Rattle.reader.proofs.checks.readiness.Goals as goal

pub returns-then-past : goal.returns-then-past
returns-then-past c = simp (sym c.past.ensures ∙ c.if-past.true)

pub returns-then-ended : goal.returns-then-ended
returns-then-ended c = simp (sym c.past.ensures ∙ c.if-past.false, c.if-ended.true)

pub returns-then-c : goal.returns-then-c
returns-then-c c =
    simp (sym c.past.ensures ∙ c.if-past.false, c.if-ended.false, c.if-c.true)

pub returns : goal.returns
returns c =
    simp (sym c.past.ensures ∙ c.if-past.false, c.if-ended.false, c.if-c.false)
