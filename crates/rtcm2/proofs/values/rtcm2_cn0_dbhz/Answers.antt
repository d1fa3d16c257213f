-- `rtcm2_cn0_dbhz` meets its contract: each answer of the value, as a flag and a number. Assumes nothing.
use mathlib.Core.Path.{sym, ap, ◌∙◌}
use Rattle.record_values.specs.Answer.{says_strength}
use Rattle.rtcm2.specs.Values.{tracked_flag, db_hz_or0}
use Rattle.rtcm2.proofs.AnswerLaws.{two-left}
use Rattle.rtcm2.proofs.values.rtcm2_cn0_dbhz.Goals as goal

pub returns-in-DbHz : goal.returns-in-DbHz
returns-in-DbHz c =
    let a = c.args in
    let e = ap says_strength (sym c.in-DbHz.is ∙ c.cn0_dbhz.ensures) in
    let said = two-left tracked_flag db_hz_or0 a.tracked.now a.dbhz.now e in
    record { value = said.0; tracked_after = said.1.0; dbhz_after = said.1.1 }

pub returns-in-NotTracked : goal.returns-in-NotTracked
returns-in-NotTracked c =
    let a = c.args in
    let e = ap says_strength (sym c.in-NotTracked.is ∙ c.cn0_dbhz.ensures) in
    let said = two-left tracked_flag db_hz_or0 a.tracked.now a.dbhz.now e in
    record { value = said.0; tracked_after = said.1.0; dbhz_after = said.1.1 }

pub returns-in-Refused : goal.returns-in-Refused
returns-in-Refused c =
    let a = c.args in
    let e = ap says_strength (sym c.in-Refused.is ∙ c.cn0_dbhz.ensures) in
    let said = two-left tracked_flag db_hz_or0 a.tracked.now a.dbhz.now e in
    record { value = said.0; tracked_after = said.1.0; dbhz_after = said.1.1 }
