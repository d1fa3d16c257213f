-- `is_broken` meets its contract: by a loop over the kept words, each after the bits that the last carried on. Assumes nothing.
use mathlib.Core.Path.{◌≡◌}
use Prim.Native.Nat.{◌+◌, ◌-◌, ◌*◌}
use lib.ListN.{drop}
use Rattle.journal.specs.Bytes.{words_from}
use Rattle.journal.specs.Words.{broken_after}
use Rattle.journal.proofs.words.is_broken.Given as goal

-- whether the words that are left are broken, after this pair, is whether all are
abbrev pub invariant-loop-i : goal.invariant-loop-i
invariant-loop-i l =
    broken_after l.carried (words_from 4 l.count (drop 3 l.bytes)) ≡ broken_after l.pair (words_from 4 (l.count - l.i) (drop (3 + 4 * l.i) l.bytes))
