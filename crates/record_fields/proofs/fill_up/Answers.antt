-- `fill_up` meets its contract. Assumes nothing.
use Rattle.record_fields.proofs.PackCode.{fill_none, fill-some}
use Rattle.record_fields.proofs.fill_up.Goals as goal

pub returns-then-held-eq0 : goal.returns-then-held-eq0
returns-then-held-eq0 c = fill_none c.args.pattern c.args.packer c.if-held-eq0.true

pub returns : goal.returns
returns c = fill-some c.args.pattern c.args.packer c.push.result c.if-held-eq0.false
    c.push.ensures
