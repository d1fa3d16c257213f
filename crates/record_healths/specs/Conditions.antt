-- The three health bits, the only ones in which the systems differ: GPS sends a code, GLONASS the data health in the first bit, then two
-- reserved ones. Assumes nothing.
use Rattle.std.specs.Prelude.{cond, ℕ, ◌+◌, ◌*◌, ◌/◌, ◌%◌, ◌^◌, ◌<◌, ltb}
use Rattle.frame.specs.declared.System.{System}
use Rattle.frame.specs.declared.System.TheVariants.{Gps, Glonass}
use Rattle.record_healths.specs.declared.Condition.{Condition}
use Rattle.record_healths.specs.declared.Condition.TheVariants.{Code, Data}

-- what a number of three bits says
unfoldable pub condition_of : System → ℕ → Condition
condition_of Gps v = Code v
condition_of Glonass v = Data (v / 4) (v % 4)

-- and back: 8 or more, which three bits can't hold, where a part is over its width or the condition is the other system's
unfoldable pub data_number : ℕ → ℕ → ℕ
data_number health reserved = cond (ltb 3 reserved) 8 (health * 4 + reserved)

unfoldable pub condition_number : System → Condition → ℕ
condition_number Gps (Code v) = v
condition_number Gps (Data health reserved) = 8
condition_number Glonass (Code v) = 8
condition_number Glonass (Data health reserved) = data_number health reserved

-- IN RANGE: a system's own condition, each part within its width
abbrev pub ConditionInRange : System → Condition → Type 0
ConditionInRange Gps (Code v) = v < 2 ^ 3
ConditionInRange Gps (Data health reserved) = ⊥
ConditionInRange Glonass (Code v) = ⊥
ConditionInRange Glonass (Data health reserved) = (health < 2 ^ 1) × (reserved < 2 ^ 2)
