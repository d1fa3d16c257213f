-- `entry_to` meets its contract: the refusal that there was, or what putting the row leaves. Assumes nothing.
use mathlib.Core.Path.{sym, ap, ◌∙◌}
use Rattle.record_observations.specs.Observations.{says_observation_read}
use Rattle.rtcm2_rows.specs.Rows.{says_put}
use Rattle.rtcm2_rows.specs.Observations.{row}
use Rattle.rtcm2.specs.Answer.{number_of}
use Rattle.rtcm2.proofs.RowLaws.{puts-as}
use Rattle.rtcm2.proofs.observation.entry_to.Goals as goal

pub returns-in-Entry : goal.returns-in-Entry
returns-in-Entry c =
    let a = c.args in
    let said = puts-as row a.observation.now (ap says_observation_read (sym c.in-Entry.is))
    (c.number_of.ensures ∙ ap (λ x. number_of (says_put x)) c.put_observation.ensures.value, c.put_observation.ensures.bytes_after) in
    record { value = said.0; observation_after = said.1 }
