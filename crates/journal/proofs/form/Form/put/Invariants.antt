-- `put` meets its contract: the start, then the data words one after the other. Assumes nothing.
use mathlib.Core.Path.{◌≡◌}
use Prim.Native.Nat.{◌+◌, ◌*◌}
use lib.ListN.{drop}
use lib.Seq.{sets}
use Rattle.journal.specs.Bytes.{written}
use Rattle.journal.proofs.form.Form.put.Given as goal

-- storing the words that are left from here on is storing all of them behind word 2
abbrev pub invariant-loop-i : goal.invariant-loop-i
invariant-loop-i l =
    sets l.initial.buffer (3 + 2 * l.size) (written l.size l.words) ≡ sets l.buffer (3 + 2 * l.size + l.size * l.i) (written l.size (drop l.i l.words))
