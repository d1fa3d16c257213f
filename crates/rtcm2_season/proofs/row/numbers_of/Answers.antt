-- `numbers_of` meets its contract: number by number. Assumes nothing.
use Prim.Native.Nat.{◌^◌, ◌<◌}
use lib.Signed.{mag}
use mir.Syntax.{w64}
use borrow.Author.Rules.{rules}
use Rattle.record_fields.proofs.SignedCode.{code-sent}
use Rattle.rtcm2_season.proofs.RowLaws.{numbers-law}
use Rattle.rtcm2_season.proofs.row.numbers_of.Goals as goal

pub returns : goal.returns
returns c =
    let bound : mag c.args.row.sum < 2 ^ 63 = search rules in
    let r = c.args.row in
    numbers-law r c.system_number.result c.code64.result c.extremes_numbers-three.result c.system_number.ensures
    c.extremes_numbers-three.ensures (code-sent w64 r.sum _ c.code64.ensures bound)
