-- `put_words` meets its contract: by a loop that stores a word after mending where the last one ended. Assumes nothing.
use Rattle.std.proofs.Common.{◌≡◌, ◌+◌, ◌-◌, ◌*◌, length, drop}
use lib.Seq.{sets}
use Rattle.mender.proofs.RecordLaws.{mended_words}
use Rattle.mender.proofs.record.put_words.Given as goal

-- storing the words that are left from here on is storing all of them
abbrev pub invariant-loop-i : goal.invariant-loop-i
invariant-loop-i l =
    (sets l.initial.copy 3 (mended_words l.count (drop 3 l.bytes)) ≡ sets l.copy (3 + 4 * l.i) (mended_words (l.count - l.i) (drop (3 + 4 * l.i) l.bytes)))
    × (length l.copy ≡ length l.initial.copy)
