-- A health of at most 7 is its own last three bits. Assumes nothing.
use mathlib.Core.Path.{◌≡◌, ap, ◌∙◌}
use Prim.Native.Nat.{ℕ, ◌%◌, ◌≤◌}
use native.Mathlib.Nat.{mod-eq_of_lt}
use native.Mathlib.Omega.{arith}
use Rattle.frame.specs.Header.{state_of}
use Rattle.frame.specs.declared.State.{State}

pub state-told : {health : ℕ} {s : State} → health ≤ 7 → s ≡ state_of (health % 8) → s ≡ state_of health
state-told {health} few e = let m : health % 8 ≡ health = mod-eq_of_lt (omega arith) in e ∙ ap state_of m
