-- `put_cells` meets its contract: by a loop that stores each cell's bytes. Assumes nothing.
use mathlib.Core.Path.{◌≡◌}
use Prim.Native.Nat.{◌+◌, ◌*◌}
use lib.ListN.{length, drop}
use lib.Seq.{sets}
use Rattle.rtcm2_state.specs.State.{start_size}
use Rattle.rtcm2_state.specs.Numbers.{numbers_written}
use Rattle.rtcm2_state.proofs.put_cells.Given as goal

-- storing the cells that are left from here on is storing all of them from byte 36 on
abbrev pub invariant-loop-i : goal.invariant-loop-i
invariant-loop-i l =
    (sets l.initial.bytes start_size (numbers_written l.cells) ≡ sets l.bytes (start_size + 4 * l.i) (numbers_written (drop l.i l.cells)))
    × (length l.bytes ≡ length l.initial.bytes)
