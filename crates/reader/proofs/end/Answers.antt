-- `end` meets its contract: 5, 3, 2, then the hunt in which nothing more may come. Assumes nothing.
use Rattle.std.proofs.Common.{◌≡◌, length, arith, rules}
use Rattle.reader.proofs.Accepted.{Accepted, to-accepted}
use Rattle.reader.proofs.Stepping.{free, end_refused, end-done}
use Rattle.reader.proofs.end.Goals as goal

-- ---- the needs
pub returns-in-Refused : goal.returns-in-Refused
returns-in-Refused c =
    end_refused c.args.reader c.readiness-ready.result c.readiness-ready.ensures _ c.in-Refused.is

pub hunt-halt-requires : goal.hunt-halt-requires
hunt-halt-requires c =
    let len : length c.args.reader.cells ≡ 40 = search rules in
    let fine : Accepted c.args.reader.candidate = let r = c.args.reader in
    let ready = c.readiness-ready in
    to-accepted r.candidate (free r ready.result ready.ensures c.in_default.is).fine in
    let a = fine in
    (len, a.top, a.low, a.few)

pub moved-last-requires : goal.moved-last-requires
moved-last-requires c =
    let fine : Accepted c.args.reader.candidate = let r = c.args.reader in
    let ready = c.readiness-ready in
    to-accepted r.candidate (free r ready.result ready.ensures c.in_default.is).fine in
    let a = fine in
    (c.hunt-halt.ensures.1, omega (arith, a.top, a.low))

pub returns : goal.returns
returns c =
    end-done c.args.reader c.readiness-ready.result c.readiness-ready.ensures c.in_default.is
    c.hunt-halt.result c.hunt-halt.ensures.0 c.moved-last.result c.moved-last.ensures
