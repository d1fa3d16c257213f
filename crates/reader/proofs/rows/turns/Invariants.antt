-- `turns` meets its contract: by a loop whose turn feeds the bytes left and takes the frame that waits. Assumes nothing.
use Rattle.std.proofs.Common.{◌≡◌, ◌-◌, ◌≤◌, length, drop}
use Rattle.reader.specs.Rows.{in_turns, going}
use Rattle.reader.proofs.Accepted.{Accepted}
use Rattle.reader.proofs.Turning.{Far}
use Rattle.reader.proofs.rows.turns.Given as goal

-- the turns from the start are what was used and put, and the turns from here
abbrev pub invariant-loop-count : goal.invariant-loop-count
invariant-loop-count l =
    (length l.cells ≡ 40) × Accepted l.c × (l.used ≤ length l.bytes) × (l.passed ≤ l.used) × (length l.rows ≡ length l.initial.rows)
    × Far (in_turns l.room (going l.initial.cells l.initial.c) l.bytes) l.initial.rows l.rows l.used l.passed l.count (in_turns (l.room - l.count) (going l.cells l.c) (drop l.used l.bytes))
