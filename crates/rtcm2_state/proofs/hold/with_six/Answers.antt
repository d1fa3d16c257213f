-- `with_six` meets its contract: the bits kept, the six after them, zeros. Assumes nothing.
use mathlib.Core.Path.{◌≡◌}
use Prim.Native.Nat.{◌-◌, ◌%◌, ◌^◌}
use native.Mathlib.Nat.{div-le_self, mod-eq_of_lt}
use native.Mathlib.Omega.{arith}
use Rattle.rtcm2_state.proofs.hold.with_six.Goals as goal

pub overflow_mul-result : goal.overflow_mul-result
overflow_mul-result c = omega (arith, c.from.ensures, div-le_self c.from.result (2 ^ (32 - c.args.off)))

pub overflow_add-result : goal.overflow_add-result
overflow_add-result c =
    omega (
      arith,
      c.from.ensures,
      c.from-2.ensures,
      div-le_self c.from.result (2 ^ (32 - c.args.off)),
    )

pub returns : goal.returns
returns c =
    let small : c.args.cell % 2 ^ 32 ≡ c.args.cell = mod-eq_of_lt (omega arith) in
    rw (c.from.ensures, c.from-2.ensures, small)
