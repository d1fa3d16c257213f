-- `rtcm2_remainder` meets its contract: a remainder has six bits, so that a byte holds it. Assumes nothing.
use mathlib.Core.Bool.{Bool}
use mathlib.Core.List.{List}
use Prim.Native.Nat.{◌^◌, ◌<◌}
use native.Mathlib.Omega.{arith}
use Rattle.bits.specs.Bits.{bits, number}
use Rattle.bits.proofs.Numbers.{number_lt}
use Rattle.word.specs.Word.{rows, parity, received, computed, remainder_of}
use Rattle.rtcm2.proofs.window.rtcm2_remainder.Goals as goal

below : (w : List Bool) → number (remainder_of w) < 2 ^ 6
unfolding rows parity received computed remainder_of
below w = number_lt (remainder_of w)

pub overflow_cast-remainder : goal.overflow_cast-remainder
overflow_cast-remainder c = omega (arith, c.remainder.ensures, below (bits 32 c.args.window))
