-- `pack_position` meets its contract: the codes pushed one after the other. Assumes nothing.
use mathlib.Core.Path.{◌≡◌, ap, ◌∙◌}
use mathlib.Core.List.{[], ◌∷◌}
use Prim.Native.Nat.{ℕ}
use mir.Syntax.{w32}
use mir.Val.{SFits}
use borrow.Author.Rules.{rules}
use Rattle.bits.specs.Signed.{code}
use Rattle.record_fields.specs.declared.Rows.{Rows}
use Rattle.record_fields.specs.Packing.{empty_packer, pushed_rows}
use Rattle.record_fields.specs.Coding.{rows_of}
use Rattle.record_fields.specs.Tables.{row, no_rows, put_row}
use Rattle.record_fields.proofs.SignedCode.{code-sent}
use Rattle.record_positions.specs.declared.Position.{Position}
use Rattle.record_positions.specs.Positions.{widths, coding}
use Rattle.record_positions.proofs.pack_position.Goals as goal

-- a row of the three codes is the position's
one-row : (p : Position) (x y z : ℕ) (none rows : Rows) → x ≡ code 31 p.x → y ≡ code 31 p.y → z ≡ code 31 p.z → none ≡ no_rows
    → rows ≡ put_row widths [] [] (row (x ∷ y ∷ z ∷ [])) none → rows.packer ≡ pushed_rows widths (rows_of coding (p ∷ [])) empty_packer
unfolding put_row no_rows
one-row p x y z none rows ex ey ez en er = ap (λ (r : Rows). r.packer) er ∙ rw (ex, ey, ez, en)

pub returns : goal.returns
returns c =
    let p = c.args.position in
    let fx : SFits w32 p.x = search rules in
    let fy : SFits w32 p.y = search rules in
    let fz : SFits w32 p.z = search rules in
    one-row p _ _ _ c.no_rows.result c.put_row-rows.result
    (code-sent w32 p.x _ c.code32-x.ensures fx.sfits)
    (code-sent w32 p.y _ c.code32-y.ensures fy.sfits)
    (code-sent w32 p.z _ c.code32-z.ensures fz.sfits)
    c.no_rows.ensures c.put_row-rows.ensures
