-- `push` meets its contract. Assumes nothing.
use native.Mathlib.Omega.{arith}
use Rattle.record_fields.proofs.PackCode.{push-law, push-wide, push-fits, flush-held}
use Rattle.record_fields.proofs.push.Goals as goal

pub returns-then-width-gt32 : goal.returns-then-width-gt32
returns-then-width-gt32 c = push-wide c.args.packer c.args.width c.args.value c.if-width-gt32.true

pub overflow_mul-full : goal.overflow_mul-full
overflow_mul-full c =
    let a = c.args in
    record {
      fits = omega
          (arith, push-fits a.packer.rest 0 a.width c.pow.result c.pow.result (omega arith) c.pow.ensures.0 c.pow.ensures.0);
    }

pub overflow_add-full-2 : goal.overflow_add-full-2
overflow_add-full-2 c =
    let a = c.args in
    record {
      fits = push-fits a.packer.rest c.from.result a.width c.pow.result c.pow-2.result (omega arith)
          c.pow.ensures.0 c.pow-2.ensures.0;
    }

pub flush-requires-2 : goal.flush-requires-2
flush-requires-2 c = flush-held c.flush.result _ c.flush.ensures (omega arith)

pub returns : goal.returns
returns c =
    let a = c.args in
    push-law a.packer a.width a.value c.from.result c.pow.result c.pow-2.result
    c.flush.result c.flush-2.result
    (omega arith) c.pow.ensures.0 c.pow-2.ensures.0 c.from.ensures c.flush.ensures
    c.flush-2.ensures
