-- `keep_data` meets its contract: the two refusals, or what keeping the frame of the words leaves. Assumes nothing.
use mathlib.Core.Path.{ap, ◌∙◌}
use Rattle.answer.specs.Order.{answers}
use Rattle.rtcm2.proofs.KeepLaws.{keeps-refused, keeps-as}
use Rattle.rtcm2.proofs.WordLaws.{part_left, too_many_lem, words-kept}
use Rattle.rtcm2.proofs.frames.keep_data.Goals as goal

pub returns-then-bytes-ne0 : goal.returns-then-bytes-ne0
returns-then-bytes-ne0 c =
    let a = c.args in
    let said = keeps-refused a.frame.now a.length.now (part_left a.header a.bytes.now c.if-bytes-ne0.true) in
    record { value = said.0; frame_after = said.1.0; length_after = said.1.1 }

pub returns-then-n-gt31 : goal.returns-then-n-gt31
returns-then-n-gt31 c =
    let a = c.args in
    let said = keeps-refused a.frame.now a.length.now (too_many_lem a.header a.bytes.now c.if-bytes-ne0.false c.if-n-gt31.true) in
    record { value = said.0; frame_after = said.1.0; length_after = said.1.1 }

pub returns : goal.returns
returns c =
    let a = c.args in
    let said = keeps-as a.frame.now a.length.now
    (ap answers c.built.ensures
    ∙ words-kept a.header a.bytes.now c.if-bytes-ne0.false c.if-n-gt31.false c.words_of-words.ensures)
    (c.keep_frame.ensures.value, (c.keep_frame.ensures.frame_after, c.keep_frame.ensures.length_after)) in
    record { value = said.0; frame_after = said.1.0; length_after = said.1.1 }
