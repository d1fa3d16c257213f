-- `feed` meets its contract: 5, 3, 2, 1, then one step. Assumes nothing.
use Rattle.std.proofs.Common.{◌≡◌, length, sym, ap, ◌∙◌, arith, rules}
use Rattle.line.proofs.LineLaws.{six-lt, six-bits, six-refused}
use Rattle.reader.specs.Reading.{step_cells, step_to}
use Rattle.reader.proofs.Accepted.{to-accepted, room-free}
use Rattle.reader.proofs.Stepping.{free, fed-refused, fed-empty, fed-done}
use Rattle.reader.proofs.feed.Goals as goal

-- ---- the refusals
pub returns-in-Refused : goal.returns-in-Refused
returns-in-Refused c =
    let a = c.args in
    fed-refused a.reader a.byte c.readiness-ready.result c.readiness-ready.ensures _ c.in-Refused.is

pub returns-in_default-line : goal.returns-in_default-line
returns-in_default-line c =
    let a = c.args in
    fed-empty a.reader a.byte c.readiness-ready.result c.readiness-ready.ensures c.in_default.is
    (six-refused a.byte _ (sym c.six_of-line.ensures ∙ c.in_default-line.is))

-- ---- the step
pub step-stepped-requires : goal.step-stepped-requires
step-stepped-requires c =
    let len : length c.args.reader.cells ≡ 40 = search rules in
    let r = c.args.reader in
    let f = free r c.readiness-ready.result c.readiness-ready.ensures c.in_default.is in
    let a = to-accepted r.candidate f.fine in
    let n = (six-bits c.args.byte _ (sym c.six_of-line.ensures ∙ c.in-Ok.is)).1 in
    (len, a.top, a.low, room-free r.candidate a f.none, a.few, omega (arith, n, six-lt c.args.byte))

pub returns : goal.returns
returns c =
    let a = c.args in
    let r = a.reader in
    let d = six-bits a.byte _ (sym c.six_of-line.ensures ∙ c.in-Ok.is) in
    let cells = c.step-stepped.ensures.1 ∙ ap (step_cells r.cells r.candidate) d.1 in
    let next = c.step-stepped.ensures.0 ∙ ap (step_to r.cells r.candidate) d.1 in
    fed-done r a.byte c.readiness-ready.result c.readiness-ready.ensures c.in_default.is d.0 c.step-stepped.new.cells cells c.step-stepped.result next
