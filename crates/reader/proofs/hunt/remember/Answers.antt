-- `remember` meets its contract. Assumes nothing.
use Rattle.std.proofs.Common.{ne_eqb}
use Rattle.reader.specs.Hunting.{remembered_by}
use Rattle.reader.proofs.hunt.remember.Goals as goal

pub returns-then-began : goal.returns-then-began
unfolding remembered_by
returns-then-began c = rw c.if-began.true

pub returns-then-k-eq0 : goal.returns-then-k-eq0
unfolding remembered_by
returns-then-k-eq0 c = rw (c.if-began.false, c.if-k-eq0.true)

pub returns : goal.returns
unfolding remembered_by
returns c = rw (c.if-began.false, ne_eqb c.args.k 0 c.if-k-eq0.false)
