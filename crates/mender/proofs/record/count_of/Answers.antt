-- `count_of` meets its contract: word 2 after mending says N, and where it is broken the N byte. Assumes nothing.
use Rattle.std.proofs.Common.{sym, ◌∙◌, arith}
use Rattle.mender.proofs.RecordLaws.{n-told, count_by}
use Rattle.mender.proofs.record.count_of.Goals as goal

pub overflow_cast-result : goal.overflow_cast-result
overflow_cast-result c = omega (arith, c.type_inv.bytes 2)

pub returns-in-Sound : goal.returns-in-Sound
returns-in-Sound c =
    let a = c.args in
    n-told _ c.data_of.ensures c.n_of.ensures
    ∙ sym (count_by a.bytes.now c.window_at-second.ensures (sym c.mend_word.ensures ∙ c.in-Sound.is))

pub returns-in-Mended : goal.returns-in-Mended
returns-in-Mended c =
    let a = c.args in
    n-told _ c.data_of-in-Mended.ensures c.n_of-in-Mended.ensures
    ∙ sym (count_by a.bytes.now c.window_at-second.ensures (sym c.mend_word.ensures ∙ c.in-Mended.is))

pub returns-in-Broken : goal.returns-in-Broken
returns-in-Broken c =
    let a = c.args in
    sym (count_by a.bytes.now c.window_at-second.ensures (sym c.mend_word.ensures ∙ c.in-Broken.is))
