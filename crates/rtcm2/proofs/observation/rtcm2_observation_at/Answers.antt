-- `rtcm2_observation_at` meets its contract: the record's refusal, or what is read of its frame in the edition. Assumes nothing.
use mathlib.Core.Path.{sym, ap}
use Rattle.rtcm2_rows.specs.Observations.{row}
use Rattle.rtcm2.specs.Observations.{entry_said}
use Rattle.rtcm2.proofs.RecallLaws.{frame-told, frame_refused}
use Rattle.rtcm2.proofs.RowLaws.{puts-refused, puts-as}
use Rattle.rtcm2.proofs.observation.rtcm2_observation_at.Goals as goal

pub returns-in-Record : goal.returns-in-Record
returns-in-Record c =
    let a = c.args in
    let said = puts-as row a.observation.now
    (ap (λ s. entry_said a.edition s a.index)
    (frame-told a.frame.now c.recall-recalled.result c.recall-recalled.ensures (sym c.in-Record.is)))
    (c.read_in.ensures.value, c.read_in.ensures.observation_after) in
    record { value = said.0; observation_after = said.1 }

pub returns-in-Refused : goal.returns-in-Refused
returns-in-Refused c =
    let a = c.args in
    let said = puts-refused row a.observation.now
    (ap (λ s. entry_said a.edition s a.index)
    (frame_refused a.frame.now c.recall-recalled.result c.recall-recalled.ensures (sym c.in-Refused.is))) in
    record { value = said.0; observation_after = said.1 }
