-- `put_start` meets its contract: 5, 13, else the start is put. Assumes nothing.
use mathlib.Core.Path.{sym, ◌∙◌}
use Rattle.rtcm2_state.proofs.StateLaws.{start-wide, start-short, start-done, start-whole}
use Rattle.rtcm2_state.proofs.put_start.Goals as goal

pub returns-then-too_wide : goal.returns-then-too_wide
returns-then-too_wide c =
    let a = c.args in
    let said = start-wide a.c a.ended a.bytes.now (sym c.too_wide.ensures ∙ c.if-too_wide.true) in
    record { value = said.0; bytes_after = said.1 }

pub returns-then-bytes-lt-SIZE : goal.returns-then-bytes-lt-SIZE
returns-then-bytes-lt-SIZE c =
    let a = c.args in
    let said = start-short a.c a.ended a.bytes.now (sym c.too_wide.ensures ∙ c.if-too_wide.false) c.if-bytes-lt-SIZE.true in
    record { value = said.0; bytes_after = said.1 }

pub returns : goal.returns
returns c =
    let a = c.args in
    let w = sym c.too_wide.ensures ∙ c.if-too_wide.false in
    record { value = start-done a.c a.ended a.bytes.now w c.if-bytes-lt-SIZE.false; bytes_after = start-whole a.c a.ended a.bytes.now w c.if-bytes-lt-SIZE.false c.put_nine.ensures }
