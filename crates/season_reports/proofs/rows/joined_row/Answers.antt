-- `joined_row` meets its contract: counts that do not pass have room, and so have the sums of right rows. Assumes nothing.
use mathlib.Core.Path.{◌≡◌}
use mathlib.Core.Bool.{false}
use Prim.Native.Nat.{◌+◌, ◌^◌}
use lib.Dec.{leb}
use native.Mathlib.Omega.{arith}
use borrow.Author.Tests.{leb-false}
use Rattle.frame.proofs.WidthLaws.{both_false}
use Rattle.season_reports.proofs.RowCode.{sums-fit, joined_is}
use Rattle.season_reports.proofs.rows.joined_row.Goals as goal

pub overflow_add-result : goal.overflow_add-result
overflow_add-result c =
    let rooms : (leb (2 ^ 32) (c.args.a.usable + c.args.b.usable) ≡ false) × (leb (2 ^ 32) (c.args.a.stops + c.args.b.stops) ≡ false) = both_false (leb (2 ^ 32) (c.args.a.usable + c.args.b.usable)) (leb (2 ^ 32) (c.args.a.stops + c.args.b.stops)) c.requires.b_value in
    omega (arith, leb-false (2 ^ 32) (c.args.a.usable + c.args.b.usable) rooms.0)

pub overflow_add-result-2 : goal.overflow_add-result-2
overflow_add-result-2 c =
    let rooms : (leb (2 ^ 32) (c.args.a.usable + c.args.b.usable) ≡ false) × (leb (2 ^ 32) (c.args.a.stops + c.args.b.stops) ≡ false) = both_false (leb (2 ^ 32) (c.args.a.usable + c.args.b.usable)) (leb (2 ^ 32) (c.args.a.stops + c.args.b.stops)) c.requires.b_value in
    omega (arith, leb-false (2 ^ 32) (c.args.a.stops + c.args.b.stops) rooms.1)

pub overflow_add-result-3 : goal.overflow_add-result-3
overflow_add-result-3 c =
    sums-fit c.args.a c.args.b c.requires.sound_row c.requires.sound_row_2 c.requires.b_value

pub returns : goal.returns
returns c =
    joined_is c.args.a c.args.b c.requires.sound_row c.requires.sound_row_2 c.requires.b_value _ c.widest_of-extremes.ensures
