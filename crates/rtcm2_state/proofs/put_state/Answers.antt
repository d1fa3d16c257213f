-- `put_state` meets its contract: 5, 13, else the start and then the cells are put. Assumes nothing.
use mathlib.Core.Path.{◌≡◌, sym, ◌∙◌}
use lib.ListN.{length}
use borrow.Author.Rules.{rules}
use Rattle.rtcm2_state.proofs.StateLaws.{start-wide, start-short, start-done, put-wide, put-short, put_whole}
use Rattle.rtcm2_state.proofs.put_state.Goals as goal

pub returns-then-too_wide : goal.returns-then-too_wide
returns-then-too_wide c =
    let a = c.args in
    let r = a.reader in
    let w = sym c.too_wide.ensures ∙ c.if-too_wide.true in
    record { value = (start-wide r.candidate r.ended a.bytes.now w).0; bytes_after = put-wide r a.bytes.now w }

pub returns-then-bytes-lt-SIZE : goal.returns-then-bytes-lt-SIZE
returns-then-bytes-lt-SIZE c =
    let a = c.args in
    let r = a.reader in
    let w = sym c.too_wide.ensures ∙ c.if-too_wide.false in
    record { value = (start-short r.candidate r.ended a.bytes.now w c.if-bytes-lt-SIZE.true).0; bytes_after = put-short r a.bytes.now w c.if-bytes-lt-SIZE.true }

pub returns : goal.returns
returns c =
    let full : length c.args.reader.cells ≡ 40 = search rules in
    let a = c.args in
    let r = a.reader in
    let w = sym c.too_wide.ensures ∙ c.if-too_wide.false in
    record { value = start-done r.candidate r.ended a.bytes.now w c.if-bytes-lt-SIZE.false; bytes_after = put_whole r a.bytes.now w full c.if-bytes-lt-SIZE.false c.put_nine.ensures c.put_cells.ensures }
