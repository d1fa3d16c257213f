-- `put_data` meets its contract: by a loop over the words, that puts three bytes for each. Assumes nothing.
use Rattle.std.proofs.Common.{◌≡◌, ◌+◌, ◌-◌, ◌*◌, length}
use lib.Seq.{sets}
use Rattle.stream.specs.Standing.{data_from}
use Rattle.journal.specs.Bytes.{written}
use Rattle.reader.specs.Cells.{held_bits}
use Rattle.reader.proofs.rows.put_data.Given as goal

-- storing the words from word k on is storing all of them from `start` on
abbrev pub invariant-loop-k : goal.invariant-loop-k
invariant-loop-k l =
    (sets l.initial.rows l.start (written 3 (data_from l.count 0 (held_bits l.cells l.end l.held))) ≡ sets l.rows (l.start + 3 * l.k) (written 3 (data_from (l.count - l.k) l.k (held_bits l.cells l.end l.held))))
    × (length l.rows ≡ length l.initial.rows)
