-- `entry_from` meets its contract: the bytes one after the other. Assumes nothing.
use mathlib.Core.Path.{◌∙◌}
use Prim.Native.Nat.{◌%◌, ◌^◌, ◌<◌}
use native.Mathlib.Omega.{arith}
use lib.ListN.{take, drop, get_or}
use mir.Syntax.{w8, w16}
use mir.ValLaws.{to_z-of_z}
use Rattle.std.proofs.Common.{rules}
use Rattle.record_fields.proofs.SignedCode.{meant-fits}
use Rattle.rtcm2_rows.proofs.CorrectionRows.{entry-law}
use Rattle.rtcm2_rows.proofs.correction.entry_from.Goals as goal

pub returns : goal.returns
returns c =
    let a = c.args in
    let n = c.from_le_bytes.result in
    let r = c.row_at.result in
    let small : n < 2 ^ 16 = search rules in
    let last : get_or r 5 0 < 256 = search rules in
    entry-law a.system r (take 7 (drop a.at a.bytes.now)) _ _ n c.issue_of.result c.row_at.ensures.each c.from_le_bytes.ensures small
    (to_z-of_z w16 c.signed16.result (meant-fits w16 _ (n % 65536) c.signed16.ensures (omega arith)) ∙ c.signed16.ensures) last
    (to_z-of_z w8 c.signed8.result (meant-fits w8 _ (get_or r 5 0 % 256) c.signed8.ensures (omega arith)) ∙ c.signed8.ensures) c.issue_of.ensures
