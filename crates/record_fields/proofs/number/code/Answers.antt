-- `code` meets its contract: a negative number plus two to the width. Assumes nothing.
use mathlib.Core.Path.{◌≡◌}
use native.Mathlib.Omega.{arith}
use lib.IntN.{pos, ◌+ℤ◌}
use mir.Syntax.{w64}
use mir.Val.{to_z, of_z}
use Rattle.bits.specs.Signed.{code}
use Rattle.record_fields.proofs.SignedCode.{sum_fits, cast_ok, cast_is, code_below, code-neg, code-pos, power}
use Rattle.record_fields.proofs.number.code.Goals as goal

pub overflow_cast-result : goal.overflow_cast-result
overflow_cast-result c = record
    { sfits = omega (arith, power c.args.half c.pow.result c.requires.0 c.pow.ensures.0) }

pub overflow_add-result : goal.overflow_add-result
overflow_add-result c =
    let sum : to_z w64 (of_z w64 c.args.z) +ℤ to_z w64 c.pow.result ≡ pos
    (code c.args.half c.args.z) = code-neg c.args.z c.args.half c.pow.result c.ranges.z c.requires.1 c.requires.0 c.pow.ensures.0 c.if-z-lt0.true in
    sum_fits _ _ sum
    (code_below c.args.half c.args.z c.requires.1 c.requires.0)

pub overflow_cast-result-then-z-lt0 : goal.overflow_cast-result-then-z-lt0
overflow_cast-result-then-z-lt0 c =
    let sum : to_z w64 (of_z w64 c.args.z) +ℤ to_z w64 c.pow.result ≡ pos
    (code c.args.half c.args.z) = code-neg c.args.z c.args.half c.pow.result c.ranges.z c.requires.1 c.requires.0 c.pow.ensures.0 c.if-z-lt0.true in
    cast_ok _ _ sum
    (code_below c.args.half c.args.z c.requires.1 c.requires.0)

pub returns-then-z-lt0 : goal.returns-then-z-lt0
returns-then-z-lt0 c =
    let sum : to_z w64 (of_z w64 c.args.z) +ℤ to_z w64 c.pow.result ≡ pos
    (code c.args.half c.args.z) = code-neg c.args.z c.args.half c.pow.result c.ranges.z c.requires.1 c.requires.0 c.pow.ensures.0 c.if-z-lt0.true in
    cast_is _ _ sum
    (code_below c.args.half c.args.z c.requires.1 c.requires.0)

pub overflow_cast-result-2 : goal.overflow_cast-result-2
overflow_cast-result-2 c = cast_ok c.args.z (code c.args.half c.args.z)
    (code-pos c.args.z c.args.half c.ranges.z c.if-z-lt0.false) (code_below c.args.half c.args.z c.requires.1 c.requires.0)

pub returns : goal.returns
returns c = cast_is c.args.z (code c.args.half c.args.z)
    (code-pos c.args.z c.args.half c.ranges.z c.if-z-lt0.false) (code_below c.args.half c.args.z c.requires.1 c.requires.0)
