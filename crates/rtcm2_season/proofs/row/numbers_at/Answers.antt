-- `numbers_at` meets its contract: each number where the one before it ends. Assumes nothing.
use mathlib.Core.Path.{refl}
use Prim.Native.Nat.{◌+◌}
use native.Mathlib.Omega.{arith}
use lib.ListN.{drop}
use Rattle.rtcm2_rows.proofs.SizeLaws.{sized-none, sized-one}
use Rattle.rtcm2_season.proofs.row.numbers_at.Goals as goal

pub returns : goal.returns
returns c =
    let a = c.args in
    let bs = a.bytes.now in
    let at = a.at in
    sized-one bs 1 _ at (at + 1) refl c.number_at.ensures
    (sized-one bs 2 _ (at + 1) (at + 3) (omega arith) c.number_at-2.ensures
    (sized-one bs 1 _ (at + 3) (at + 4) (omega arith) c.number_at-3.ensures
    (sized-one bs 4 _ (at + 4) (at + 8) (omega arith) c.number_at-4.ensures
    (sized-one bs 4 _ (at + 8) (at + 12) (omega arith) c.number_at-5.ensures
    (sized-one bs 1 _ (at + 12) (at + 13) (omega arith) c.number_at-6.ensures
    (sized-one bs 4 _ (at + 13) (at + 17) (omega arith) c.number_at-7.ensures
    (sized-one bs 4 _ (at + 17) (at + 21) (omega arith) c.number_at-8.ensures
    (sized-one bs 8 _ (at + 21) (at + 29) (omega arith) c.number_at-9.ensures (sized-none (drop (at + 29) bs))))))))))
