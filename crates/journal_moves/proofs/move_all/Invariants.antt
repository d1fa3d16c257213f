-- `move_all` meets its contract: by a loop that moves a record behind those moved. Assumes nothing.
use Prim.Native.Nat.{◌-◌}
use lib.ListN.{length}
use Rattle.journal_moves.proofs.PieceLaws.{SoFar}
use Rattle.journal_moves.proofs.move_all.Given as goal

abbrev pub invariant-loop-read : goal.invariant-loop-read
invariant-loop-read l = SoFar l.way l.bytes l.initial.buffer l.buffer l.read l.written

abbrev pub decreases-loop-read : goal.decreases-loop-read
decreases-loop-read l = length l.bytes - l.read
