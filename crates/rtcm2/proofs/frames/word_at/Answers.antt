-- `word_at` meets its contract: three bytes, each below 256, and the word that they write. Assumes nothing.
use Prim.Native.Nat.{◌+◌}
use native.Mathlib.Omega.{arith}
use Rattle.rtcm2.proofs.WordLaws.{three-bytes}
use Rattle.rtcm2.proofs.frames.word_at.Goals as goal

pub overflow_cast-result : goal.overflow_cast-result
overflow_cast-result c = omega (arith, c.type_inv.bytes c.args.at)

pub overflow_mul-result : goal.overflow_mul-result
overflow_mul-result c = omega (arith, c.type_inv.bytes c.args.at)

pub overflow_cast-result-2 : goal.overflow_cast-result-2
overflow_cast-result-2 c = omega (arith, c.type_inv.bytes (c.args.at + 1))

pub overflow_add-result-2 : goal.overflow_add-result-2
overflow_add-result-2 c =
    let at = c.args.at in
    omega (arith, c.type_inv.bytes at, c.type_inv.bytes (at + 1))

pub overflow_mul-result-2 : goal.overflow_mul-result-2
overflow_mul-result-2 c =
    let at = c.args.at in
    omega (arith, c.type_inv.bytes at, c.type_inv.bytes (at + 1))

pub overflow_cast-result-3 : goal.overflow_cast-result-3
overflow_cast-result-3 c = omega (arith, c.type_inv.bytes (c.args.at + 2))

pub overflow_add-result-4 : goal.overflow_add-result-4
overflow_add-result-4 c =
    let at = c.args.at in
    omega (arith, c.type_inv.bytes at, c.type_inv.bytes (at + 1), c.type_inv.bytes (at + 2))

pub returns : goal.returns
returns c =
    three-bytes c.args.bytes.now c.args.at c.requires (λ i. omega (arith, c.type_inv.bytes i))
