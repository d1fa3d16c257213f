-- `readiness` meets its contract: by what feeding no bytes answers. Assumes nothing.
use Rattle.std.proofs.Common.{ap}
use Rattle.reader.specs.declared.FedAll.{FedAll}
use Rattle.listing.proofs.ListingLaws.{ready_refused, ready-waits, ready-done}
use Rattle.listing.proofs.readiness.Goals as goal

pub returns-then-n-ne2 : goal.returns-then-n-ne2
returns-then-n-ne2 c =
    ready_refused c.args.reader _ (ap (λ (f : FedAll). f.answer) c.feed_all-fed.ensures)
    _ c.in-Refused.is c.if-n-ne2.true

pub returns-else-n-ne2 : goal.returns-else-n-ne2
returns-else-n-ne2 c =
    ready-waits c.args.reader _ (ap (λ (f : FedAll). f.answer) c.feed_all-fed.ensures)
    _ c.in-Refused.is c.if-n-ne2.false

pub returns-in_default : goal.returns-in_default
returns-in_default c =
    ready-done c.args.reader _ (ap (λ (f : FedAll). f.answer) c.feed_all-fed.ensures) c.in_default.is
