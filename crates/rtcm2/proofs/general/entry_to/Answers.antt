-- `entry_to` meets its contract: the refusal that there was, or what putting the row leaves. Assumes nothing.
use mathlib.Core.Path.{sym, ap, ◌∙◌}
use Rattle.record_generals.specs.Generals.{says_general_read}
use Rattle.rtcm2_rows.specs.Rows.{says_put}
use Rattle.rtcm2_rows.specs.Generals.{row}
use Rattle.rtcm2.specs.Answer.{number_of}
use Rattle.rtcm2.proofs.RowLaws.{puts-as}
use Rattle.rtcm2.proofs.general.entry_to.Goals as goal

pub returns-in-Entry : goal.returns-in-Entry
returns-in-Entry c =
    let a = c.args in
    let said = puts-as row a.general.now (ap says_general_read (sym c.in-Entry.is))
    (c.number_of.ensures ∙ ap (λ x. number_of (says_put x)) c.put_general.ensures.value, c.put_general.ensures.bytes_after) in
    record { value = said.0; general_after = said.1 }
