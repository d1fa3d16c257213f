-- `field_of` meets its contract: the field of at most 32 bits lies in three words. Assumes nothing.
use mathlib.Core.Path.{sym, ◌∙◌}
use native.Mathlib.Omega.{arith}
use lib.Pow.{pow_pos}
use Rattle.bits.specs.Rows.{data_bits}
use Rattle.bits.proofs.FieldLaws.{fits-field}
use Rattle.record_fields.proofs.PackCode.{field_in_lem, field-wide, field_past, field-none, field-law, field_below}
use Rattle.record_fields.proofs.field_of.Goals as goal
use Rattle.record_fields.proofs.field_of.Goals.{then-width-gt32-via-then-width-gt32, then-width-gt32-via-else-width-gt32+then-width-eq0}
use Rattle.record_fields.proofs.field_of.Goals.{then-width-gt32-via-else-width-gt32+else-width-eq0+then-offset-width}

pub returns-then-width-gt32 : goal.returns-then-width-gt32
returns-then-width-gt32 c =
    let a = c.args in (
      elim c.then-width-gt32.branch [
        | then-width-gt32-via-then-width-gt32 w ↦ sym (field-wide a.words.now a.offset a.width w.if-width-gt32.true)
        | then-width-gt32-via-else-width-gt32+then-width-eq0 w ↦ sym (field-none a.words.now a.offset a.width w.if-width-eq0.true)
        | then-width-gt32-via-else-width-gt32+else-width-eq0+then-offset-width w ↦ sym (field_past a.words.now a.offset a.width (omega arith) (omega arith))
      ],
      pow_pos a.width,
    )

pub overflow_cast-result : goal.overflow_cast-result
overflow_cast-result c =
    record { fits = field_below _ c.args.width c.pow-2.result (omega arith) c.pow-2.ensures.0 }

pub returns : goal.returns
returns c =
    let a = c.args in
    let ws = a.words.now in
    let e = field-law ws a.offset a.width c.word.result c.word-2.result c.word-3.result
    c.pow.result c.pow-2.result
    (omega arith) (omega arith) (omega arith) c.word.ensures c.word-2.ensures c.word-3.ensures
    c.pow.ensures.0 c.pow-2.ensures.0 in
    (e ∙ sym (field_in_lem ws a.offset a.width (omega arith) (omega arith)), rw e (fits-field a.offset a.width (data_bits ws)))
