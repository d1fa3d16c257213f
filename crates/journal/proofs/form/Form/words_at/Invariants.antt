-- `words_at` meets its contract: by a loop that reads each word into its place. Assumes nothing.
use mathlib.Core.Path.{◌≡◌}
use mathlib.Core.List.{◌++◌}
use Prim.Native.Nat.{◌+◌, ◌*◌}
use lib.ListN.{drop}
use Rattle.journal.specs.Bytes.{words_from}
use Rattle.journal.proofs.form.Form.words_at.Given as goal

-- the first i words, and what stood in the places that are left
abbrev pub invariant-loop-i : goal.invariant-loop-i
invariant-loop-i l = l.words ≡ words_from l.size l.i (drop (3 + 2 * l.size) l.bytes) ++ drop l.i l.initial.words
