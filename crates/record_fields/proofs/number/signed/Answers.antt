-- `signed` meets its contract: from half the range on, less two to the width. Assumes nothing.
use Prim.Native.Nat.{◌^◌, ◌≤◌, ◌<◌}
use native.Mathlib.Omega.{arith}
use Rattle.record_fields.proofs.SignedCode.{signed_low, power-fits, apart_fits, signed_high}
use Rattle.record_fields.proofs.number.signed.Goals as goal

pub returns-then-from-pow : goal.returns-then-from-pow
returns-then-from-pow c =
    let below : c.args.n < 2 ^ c.args.half = omega arith in
    signed_low c.args.n c.args.half c.requires.0 below

pub overflow_cast-result : goal.overflow_cast-result
overflow_cast-result c =
    let far : 2 ^ c.args.half ≤ c.args.n = omega arith in
    power-fits c.args.n c.args.half c.pow-2.result c.requires.0 c.pow-2.ensures.0 far c.requires.1

pub overflow_sub-result : goal.overflow_sub-result
overflow_sub-result c =
    let far : 2 ^ c.args.half ≤ c.args.n = omega arith in
    apart_fits c.args.n c.args.half c.pow-2.result c.requires.0 c.pow-2.ensures.0 far c.requires.1

pub returns : goal.returns
returns c =
    let far : 2 ^ c.args.half ≤ c.args.n = omega arith in
    signed_high c.args.n c.args.half c.pow-2.result c.requires.0 c.pow-2.ensures.0 far c.requires.1
