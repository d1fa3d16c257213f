-- `feed_all` meets its contract: 5, 3, 2, then the run over the bytes. Assumes nothing.
use Rattle.std.proofs.Common.{◌≡◌, length, rules}
use Rattle.reader.proofs.Stepping.{free, all-refused, all_done}
use Rattle.reader.proofs.feed_all.Goals as goal

-- ---- the needs
pub returns-in-Refused : goal.returns-in-Refused
returns-in-Refused c =
    let a = c.args in
    all-refused a.reader a.bytes.now c.readiness-ready.result c.readiness-ready.ensures _ c.in-Refused.is

pub run-ran-requires : goal.run-ran-requires
run-ran-requires c =
    let len : length c.args.reader.cells ≡ 40 = search rules in
    let r = c.args.reader in
    (len, (free r c.readiness-ready.result c.readiness-ready.ensures c.in_default.is).fine)

pub returns : goal.returns
returns c =
    let a = c.args in
    all_done a.reader a.bytes.now c.readiness-ready.result c.readiness-ready.ensures c.in_default.is _ c.run-ran.ensures
