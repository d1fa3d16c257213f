-- `widths_of` meets its contract: the width of the quality, and what it leaves of eight bits. Assumes nothing.
use mathlib.Core.Path.{ap}
use mathlib.Core.List.{[], ◌∷◌}
use Prim.Native.Nat.{◌-◌}
use Rattle.record_observations.proofs.rows.widths_of.Goals as goal

pub returns : goal.returns
returns c = ap (λ q. 1 ∷ 1 ∷ 1 ∷ 5 ∷ q ∷ (8 - q) ∷ 32 ∷ []) c.quality_width-quality.ensures.0
