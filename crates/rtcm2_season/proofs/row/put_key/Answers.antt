-- `put_key` meets its contract: each number where the one before it ends. Assumes nothing.
use mathlib.Core.Path.{refl, sym, ◌∙◌}
use Prim.Native.Nat.{◌+◌}
use native.Mathlib.Omega.{arith}
use Rattle.rtcm2_rows.proofs.SizeLaws.{put_one, put-none-left}
use Rattle.rtcm2_season.proofs.row.put_key.Goals as goal

pub returns : goal.returns
returns c =
    let a = c.args in
    let at = a.at in
    sym (put_one a.numbers a.bytes.now 1 _ at (at + 1) 0 refl c.put_number.ensures
    ∙ put_one a.numbers c.put_number.new.bytes 2 _ (at + 1) (at + 3) 1 (omega arith) c.put_number-2.ensures
    ∙ put_one a.numbers c.put_number-2.new.bytes 1 _ (at + 3) (at + 4) 2 (omega arith) c.put_number-3.ensures
    ∙ put_one a.numbers c.put_number-3.new.bytes 4 _ (at + 4) (at + 8) 3 (omega arith) c.put_number-4.ensures
    ∙ put_one a.numbers c.put_number-4.new.bytes 4 _ (at + 8) (at + 12) 4 (omega arith) c.put_number-5.ensures
    ∙ put-none-left c.put_number-5.new.bytes (at + 12) _)
