-- `position_from` meets its contract: the fields by the table, each as a signed number. Assumes nothing.
use mathlib.Core.Path.{◌≡◌, ap, ◌∙◌}
use mathlib.Core.List.{List}
use Prim.Native.Nat.{ℕ, ◌^◌, ◌<◌}
use native.Mathlib.Omega.{arith}
use lib.IntN.{ℤ}
use lib.ListN.{get_or}
use mir.Syntax.{w32}
use borrow.Author.Rules.{rules}
use Rattle.bits.specs.Signed.{signed}
use Rattle.record_fields.proofs.SignedCode.{signed-held}
use Rattle.record_fields.proofs.TableLaws.{fields_fit, row_read_lem}
use Rattle.record_positions.specs.Positions.{widths, meant}
use Rattle.record_positions.proofs.position_from.Goals as goal

held : (vs : List ℕ) (x y z : ℤ) → x ≡ signed 31 (get_or vs 0 0) → y ≡ signed 31 (get_or vs 1 0) → z ≡ signed 31 (get_or vs 2 0)
    → record { x = x; y = y; z = z } ≡ meant vs
held vs x y z ex ey ez = rw (ex, ey, ez)

pub returns : goal.returns
returns c =
    let fit : (k : ℕ) → get_or c.fields-row.result k 0 < 2 ^ get_or widths k 0 = λ k. let a = c.args in fields_fit a.words widths 0 c.fields-row.result c.fields-row.ensures k in
    let a = c.args in
    held c.fields-row.result _ _ _
    (signed-held w32 c.signed32.result _ c.signed32.ensures (fit 0))
    (signed-held w32 c.signed32-2.result _ c.signed32-2.ensures (fit 1))
    (signed-held w32 c.signed32-3.result _ c.signed32-3.ensures (fit 2))
    ∙ ap meant (row_read_lem a.words widths 0 c.fields-row.result c.fields-row.ensures (search rules) (omega arith))
