-- A position whose numbers are equal is the same. Assumes nothing.
use mathlib.Core.Path.{◌≡◌}
use lib.IntN.{ℤ}
use Rattle.record_positions.specs.declared.Position.{Position}

pub same-position : {x y z x' y' z' : ℤ} → x ≡ x' → y ≡ y' → z ≡ z'
    → ◌≡◌ {A = Position} (record { x = x; y = y; z = z }) (record { x = x'; y = y'; z = z' })
same-position e f g = cc
