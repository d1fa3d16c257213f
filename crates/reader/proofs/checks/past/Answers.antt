-- `past` meets its contract: the tests in the order of the definition. Assumes nothing.
use Rattle.reader.proofs.Accepted.{past_end, past-low, past_room, past-few, past-known, none-known}
use Rattle.reader.proofs.checks.past.Goals as goal

pub returns-then-c-gt1280 : goal.returns-then-c-gt1280
returns-then-c-gt1280 c = past_end c.args.c c.if-c-gt1280.true

pub returns-then-c-held : goal.returns-then-c-held
returns-then-c-held c = past-low c.args.c c.if-c-gt1280.false c.if-c-held.true

pub returns-then-most-held : goal.returns-then-most-held
returns-then-most-held c =
    past_room c.args.c c.if-c-gt1280.false c.if-c-held.false _ c.most.ensures c.if-most-held.true

pub returns-then-words-eq0 : goal.returns-then-words-eq0
returns-then-words-eq0 c =
    none-known c.args.c c.if-c-gt1280.false c.if-c-held.false _ c.most.ensures c.if-most-held.false c.if-words-eq0.true

pub returns-then-words-gt32 : goal.returns-then-words-gt32
returns-then-words-gt32 c =
    past-few c.args.c c.if-c-gt1280.false c.if-c-held.false _ c.most.ensures c.if-most-held.false c.if-words-gt32.true

pub returns : goal.returns
returns c =
    past-known c.args.c c.if-c-gt1280.false c.if-c-held.false _
    c.most.ensures c.if-most-held.false c.if-words-gt32.false c.if-words-eq0.false
