-- `put_changes` meets its contract: by a loop that puts a byte back and writes its change where it has one. Assumes nothing.
use Rattle.std.proofs.Common.{◌≡◌, ◌+◌, ◌*◌, ◌≤◌, ◌++◌, length, take, drop}
use lib.Seq.{sets}
use Rattle.mender.specs.Report.{changes_from, change_lines}
use Rattle.mender.proofs.ChangeLaws.{from}
use Rattle.mender.proofs.put_changes.Given as goal

-- the bytes before i are put back, and writing the changes from there on is writing all of them
abbrev pub invariant-loop-i : goal.invariant-loop-i
invariant-loop-i l =
    (l.bytes ≡ take l.i l.whole ++ drop l.i l.initial.bytes)
    × (sets l.initial.output 0 (change_lines (changes_from l.at l.initial.bytes l.whole)) ≡ sets l.output l.next (change_lines (from l.at l.initial.bytes l.whole l.i)))
    × (length (change_lines (changes_from l.at l.initial.bytes l.whole)) ≡ l.next + length (change_lines (from l.at l.initial.bytes l.whole l.i)))
    × (l.next + 29 * length (from l.at l.initial.bytes l.whole l.i) ≤ 29 * length (changes_from l.at l.initial.bytes l.whole))
    × (length l.bytes ≡ length l.initial.bytes)
    × (length l.output ≡ length l.initial.output)
