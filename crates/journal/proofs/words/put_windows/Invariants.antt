-- `put_windows` meets its contract: each word behind the last, after the bits that it carried on. Assumes nothing.
use mathlib.Core.Path.{◌≡◌}
use Prim.Native.Nat.{◌+◌, ◌*◌, ◌<◌}
use lib.ListN.{drop}
use lib.Seq.{sets}
use Rattle.journal.specs.Bytes.{written}
use Rattle.journal.specs.Words.{windows_from}
use Rattle.journal.proofs.words.put_windows.Given as goal

-- storing the words that are left from here on, after this pair, is storing all of them from `at` on
abbrev pub invariant-loop-i : goal.invariant-loop-i
invariant-loop-i l =
    (sets l.initial.buffer l.at (written 4 (windows_from l.carried l.words)) ≡ sets l.buffer (l.at + 4 * l.i) (written 4 (windows_from l.pair (drop l.i l.words))))
    × (l.pair < 4)
