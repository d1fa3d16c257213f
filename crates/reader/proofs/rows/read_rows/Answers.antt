-- `read_rows` meets its contract: 5, 3, 13, then the turns. Assumes nothing.
use Rattle.std.proofs.Common.{◌≡◌, false, length, sym, ◌∙◌, rules}
use Rattle.reader.specs.Reading.{past}
use Rattle.reader.specs.Rows.{stuck}
use Rattle.reader.proofs.RowChecks.{rows-past, rows-stuck, rows-ended, rows_short, rows-done, stuck-same}
use Rattle.reader.proofs.rows.read_rows.Goals as goal

pub returns-then-past : goal.returns-then-past
returns-then-past c =
    let a = c.args in
    let said = rows-past a.reader a.bytes.now a.rows.now (sym c.past.ensures ∙ c.if-past.true) c.unread.result c.unread.ensures in
    record { value = said.0; rows_after = said.1 }

pub is_stuck-requires : goal.is_stuck-requires
is_stuck-requires c =
    let len : length c.args.reader.cells ≡ 40 = search rules in
    let fine : past c.args.reader ≡ false = sym c.past.ensures ∙ c.if-past.false in
    (len, fine)

pub returns-then-is_stuck : goal.returns-then-is_stuck
returns-then-is_stuck c =
    let fine : past c.args.reader ≡ false = sym c.past.ensures ∙ c.if-past.false in
    let a = c.args in
    let said = rows-stuck a.reader a.bytes.now a.rows.now fine (sym (c.is_stuck.ensures ∙ stuck-same a.reader) ∙ c.if-is_stuck.true)
    c.unread-then-is_stuck.result c.unread-then-is_stuck.ensures in
    record { value = said.0; rows_after = said.1 }

pub returns-then-next : goal.returns-then-next
returns-then-next c =
    let fine : past c.args.reader ≡ false = sym c.past.ensures ∙ c.if-past.false in
    let free : stuck c.args.reader ≡ false = sym (c.is_stuck.ensures ∙ stuck-same c.args.reader) ∙ c.if-is_stuck.false in
    let a = c.args in
    let said = rows-ended a.reader a.bytes.now a.rows.now fine free c.if-next.true c.unread-then-next.result c.unread-then-next.ensures in
    record { value = said.0; rows_after = said.1 }

pub returns-then-rows-lt-ROW : goal.returns-then-rows-lt-ROW
returns-then-rows-lt-ROW c =
    let fine : past c.args.reader ≡ false = sym c.past.ensures ∙ c.if-past.false in
    let free : stuck c.args.reader ≡ false = sym (c.is_stuck.ensures ∙ stuck-same c.args.reader) ∙ c.if-is_stuck.false in
    let a = c.args in
    let said = rows_short a.reader a.bytes.now a.rows.now fine free c.if-next.false c.if-rows-lt-ROW.true
    c.unread-then-rows-lt-ROW.result c.unread-then-rows-lt-ROW.ensures in
    record { value = said.0; rows_after = said.1 }

pub turns-made-requires : goal.turns-made-requires
turns-made-requires c =
    let len : length c.args.reader.cells ≡ 40 = search rules in
    let fine : past c.args.reader ≡ false = sym c.past.ensures ∙ c.if-past.false in
    (len, fine)

pub returns : goal.returns
returns c =
    let fine : past c.args.reader ≡ false = sym c.past.ensures ∙ c.if-past.false in
    let free : stuck c.args.reader ≡ false = sym (c.is_stuck.ensures ∙ stuck-same c.args.reader) ∙ c.if-is_stuck.false in
    let a = c.args in
    let said = rows-done a.reader a.bytes.now a.rows.now fine free c.if-next.false c.if-rows-lt-ROW.false
    _ c.turns-made.result c.turns-made.ensures.result_after _ c.turns-made.ensures.rows_after in
    record { value = said.0; rows_after = said.1 }
