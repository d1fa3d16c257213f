-- `rtcm2_mend` meets its contract: the step's refusal, or its number, where the next one is and how long its report is. Assumes nothing.
use mathlib.Core.Path.{ap}
use Rattle.mender.specs.declared.Next.{Next}
use Rattle.rtcm2.proofs.MendLaws.{mend-refused, mend-done}
use Rattle.rtcm2.proofs.mending.rtcm2_mend.Goals as goal

pub returns-in-Refused : goal.returns-in-Refused
returns-in-Refused c =
    let a = c.args in
    let said = mend-refused a.bytes.now a.at a.searching a.report.now
    c.is_set.ensures c.mend-mended.ensures.value
    c.mend-mended.ensures.bytes_after c.mend-mended.ensures.output_after c.in-Refused.is a.step.now a.read.now a.written.now in
    record { value = said.0; bytes_after = said.1.0; report_after = said.1.1.0; step_after = said.1.1.1.0; read_after = said.1.1.1.1.0; written_after = said.1.1.1.1.1 }

pub returns : goal.returns
returns c =
    let a = c.args in
    let said = mend-done a.bytes.now a.at a.searching a.report.now
    c.is_set.ensures c.mend-mended.ensures.value
    c.mend-mended.ensures.bytes_after c.mend-mended.ensures.output_after c.in_default.is a.step.now a.read.now a.written.now
    c.step_number.ensures (ap (λ (x : Next). x.on) c.next_of-next.ensures) in
    record { value = said.0; bytes_after = said.1.0; report_after = said.1.1.0; step_after = said.1.1.1.0; read_after = said.1.1.1.1.0; written_after = said.1.1.1.1.1 }
