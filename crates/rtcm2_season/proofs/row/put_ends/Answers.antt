-- `put_ends` meets its contract: each number where the one before it ends. Assumes nothing.
use mathlib.Core.Path.{refl, sym, ◌∙◌}
use Prim.Native.Nat.{◌+◌}
use native.Mathlib.Omega.{arith}
use Rattle.rtcm2_rows.proofs.SizeLaws.{put_one, put-none-left}
use Rattle.rtcm2_season.proofs.row.put_ends.Goals as goal

pub returns : goal.returns
returns c =
    let a = c.args in
    let at = a.at in
    sym (put_one a.numbers a.bytes.now 1 _ at (at + 1) 5 refl c.put_number.ensures
    ∙ put_one a.numbers c.put_number.new.bytes 4 _ (at + 1) (at + 5) 6 (omega arith) c.put_number-2.ensures
    ∙ put_one a.numbers c.put_number-2.new.bytes 4 _ (at + 5) (at + 9) 7 (omega arith) c.put_number-3.ensures
    ∙ put_one a.numbers c.put_number-3.new.bytes 8 _ (at + 9) (at + 17) 8 (omega arith) c.put_number-4.ensures
    ∙ put-none-left c.put_number-4.new.bytes (at + 17) _)
