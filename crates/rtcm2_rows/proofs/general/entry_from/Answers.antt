-- `entry_from` meets its contract: the bytes one after the other. Assumes nothing.
use mathlib.Core.Path.{◌∙◌}
use Prim.Native.Nat.{◌%◌, ◌^◌, ◌<◌}
use native.Mathlib.Omega.{arith}
use lib.ListN.{take, drop}
use mir.Syntax.{w16}
use mir.ValLaws.{to_z-of_z}
use Rattle.std.proofs.Common.{rules}
use Rattle.record_fields.proofs.SignedCode.{meant-fits}
use Rattle.rtcm2_rows.proofs.GeneralRows.{entry-law}
use Rattle.rtcm2_rows.proofs.general.entry_from.Goals as goal

pub returns : goal.returns
returns c =
    let a = c.args in
    let n = c.from_le_bytes.result in
    let small : n < 2 ^ 16 = search rules in
    entry-law c.row_at.result (take 7 (drop a.at a.bytes.now)) _ n c.from_le_bytes-2.result c.row_at.ensures.each c.from_le_bytes.ensures small
    (to_z-of_z w16 c.signed16.result (meant-fits w16 _ (n % 65536) c.signed16.ensures (omega arith)) ∙ c.signed16.ensures) c.from_le_bytes-2.ensures
