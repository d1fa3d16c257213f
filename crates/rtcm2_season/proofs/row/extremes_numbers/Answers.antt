-- `extremes_numbers` meets its contract: zeros, or 1 and the two codes. Assumes nothing.
use mathlib.Core.Path.{sym, ap, ap₂, ◌∙◌}
use mathlib.Core.List.{[], ◌∷◌}
use Prim.Native.Nat.{◌^◌, ◌<◌}
use lib.Signed.{mag}
use mir.Syntax.{w32}
use borrow.Author.Rules.{rules}
use Rattle.record_fields.proofs.SignedCode.{code-sent}
use Rattle.rtcm2_season.specs.Rows.{extremes_numbers}
use Rattle.rtcm2_season.proofs.row.extremes_numbers.Goals as goal

pub returns-in-Present : goal.returns-in-Present
returns-in-Present c =
    let least_fits : mag c.in-Present.least < 2 ^ 31 = search rules in
    let largest-fits : mag c.in-Present.largest < 2 ^ 31 = search rules in
    ap₂ (λ a b. 1 ∷ a ∷ b ∷ []) (code-sent w32 _ _ c.code32.ensures least_fits) (code-sent w32 _ _ c.code32-in-Present.ensures largest-fits)
    ∙ sym (ap extremes_numbers c.in-Present.is)
