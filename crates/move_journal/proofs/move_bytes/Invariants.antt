-- `move_bytes` is safe: each piece begins where the last one ended. Assumes nothing.
use Rattle.std.proofs.Common.{◌≡◌, ◌≤◌, length}
use Rattle.move_journal.proofs.move_bytes.Given as goal

abbrev pub invariant-loop : goal.invariant-loop
invariant-loop l = (l.from ≤ length l.bytes) × (length l.out ≡ 65536)
