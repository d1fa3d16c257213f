-- `put_cells` meets its contract: by a loop that stores each cell's bytes. Assumes nothing.
use mathlib.Core.Path.{◌≡◌, refl, sym, ap, ap₂, ◌∙◌}
use Prim.Native.Nat.{◌+◌, ◌*◌, ◌≤◌}
use native.Mathlib.Omega.{arith}
use lib.ListN.{length, drop, get_or, drop_of_length-le}
use lib.Seq.{sets, length-sets}
use Rattle.rtcm2_state.specs.State.{start_size}
use Rattle.rtcm2_state.specs.Numbers.{low_bytes, numbers_written}
use Rattle.rtcm2_state.proofs.StoreLaws.{store-next}
use Rattle.rtcm2_state.proofs.put_cells.Goals as goal

pub loop-i-init : goal.loop-i-init
loop-i-init c = (refl, refl)

pub loop-i-preserved : goal.loop-i-preserved
loop-i-preserved c =
    let a = c.args in
    let next = start_size + 4 * c.loop-i.i in
    let on : next + 4 ≡ start_size + 4 * (c.loop-i.i + 1) = omega arith in (
      c.loop-i.invariant.0 ∙ store-next a.cells.now c.loop-i.bytes next c.loop-i.i (omega (arith, c.requires.0))
          ∙ ap₂ (λ b j. sets b j (numbers_written (drop (c.loop-i.i + 1) a.cells.now))) (sym c.put_number.ensures) on,
      ap length c.put_number.ensures ∙ length-sets c.loop-i.bytes next (low_bytes 4 (get_or a.cells.now c.loop-i.i 0)) ∙ c.loop-i.invariant.1,
    )

pub returns : goal.returns
unfolding numbers_written
returns c =
    let a = c.args in
    let all : length a.cells.now ≤ c.loop-i.i = omega (arith, c.requires.0) in
    sym (c.loop-i.invariant.0 ∙ ap (λ r. sets c.loop-i.bytes (start_size + 4 * c.loop-i.i) (numbers_written r)) (drop_of_length-le a.cells.now all))

pub shape_of-bytes : goal.shape_of-bytes
shape_of-bytes c = omega arith
