-- `rtcm2_recall` meets its contract: the journal's refusal, or the numbers of the frame, whose state has a code. Assumes nothing.
use mathlib.Core.Path.{◌≡◌, sym, ◌∙◌}
use mathlib.Core.Bool.{false}
use native.Mathlib.Omega.{arith}
use Rattle.answer.specs.Order.{answers}
use Rattle.frame.specs.Widths.{state_outside}
use Rattle.rtcm2.specs.Frames.{recall_said}
use Rattle.rtcm2.proofs.NumberLaws.{recalls-refused, recalls-told}
use Rattle.rtcm2.proofs.RecallLaws.{recall-told, recall-refused, recalled-coded, recalled-few, health-told, health-never}
use Rattle.rtcm2.proofs.frames.rtcm2_recall.Goals as goal

pub overflow_cast-n : goal.overflow_cast-n
overflow_cast-n c =
    let told : answers (c.in-Record.size, c.recall-recalled.result.frame) ≡ recall_said c.args.frame.now = recall-told c.args.frame.now c.recall-recalled.result c.recall-recalled.ensures (sym c.in-Record.is) in
    let coded : state_outside c.recall-recalled.result.frame.header.state ≡ false = recalled-coded c.args.frame.now told in
    omega (arith, recalled-few c.args.frame.now told)

pub returns-in-Ok : goal.returns-in-Ok
returns-in-Ok c =
    let told : answers (c.in-Record.size, c.recall-recalled.result.frame) ≡ recall_said c.args.frame.now = recall-told c.args.frame.now c.recall-recalled.result c.recall-recalled.ensures (sym c.in-Record.is) in
    let coded : state_outside c.recall-recalled.result.frame.header.state ≡ false = recalled-coded c.args.frame.now told in
    let a = c.args in
    let f = c.recall-recalled.result.frame in
    let said = recalls-told a.kind.now a.station.now a.z.now a.sequence.now a.health.now a.n.now a.length.now f told
    (health-told f.header.state coded (sym c.in-Ok.is ∙ c.health_of.ensures)) in
    record { value = said.0; kind_after = said.1.0; station_after = said.1.1.0; z_after = said.1.1.1.0; sequence_after = said.1.1.1.1.0; health_after = said.1.1.1.1.1.0; n_after = said.1.1.1.1.1.1.0; length_after = said.1.1.1.1.1.1.1 }

pub returns-in-Err : goal.returns-in-Err
returns-in-Err c =
    let told : answers (c.in-Record.size, c.recall-recalled.result.frame) ≡ recall_said c.args.frame.now = recall-told c.args.frame.now c.recall-recalled.result c.recall-recalled.ensures (sym c.in-Record.is) in
    let coded : state_outside c.recall-recalled.result.frame.header.state ≡ false = recalled-coded c.args.frame.now told in
    absurd (health-never c.recall-recalled.result.frame.header.state coded (sym c.in-Err.is ∙ c.health_of.ensures))

pub returns-in-Refused : goal.returns-in-Refused
returns-in-Refused c =
    let a = c.args in
    let said = recalls-refused a.kind.now a.station.now a.z.now a.sequence.now a.health.now a.n.now a.length.now
    (recall-refused a.frame.now c.recall-recalled.result c.recall-recalled.ensures (sym c.in-Refused.is)) in
    record { value = said.0; kind_after = said.1.0; station_after = said.1.1.0; z_after = said.1.1.1.0; sequence_after = said.1.1.1.1.0; health_after = said.1.1.1.1.1.0; n_after = said.1.1.1.1.1.1.0; length_after = said.1.1.1.1.1.1.1 }
