-- `words_of` meets its contract: by a loop that fills the array word by word. Assumes nothing.
use mathlib.Core.Path.{◌≡◌}
use mathlib.Core.List.{◌++◌}
use Prim.Native.Nat.{◌-◌, ◌≤◌}
use lib.ListN.{replicate}
use Rattle.journal.specs.Bytes.{words_from}
use Rattle.rtcm2.proofs.frames.words_of.Given as goal

-- the first i words, and zeros
abbrev pub invariant-loop-i : goal.invariant-loop-i
invariant-loop-i l = (l.words ≡ words_from 3 l.i l.bytes ++ replicate (31 - l.i) 0) × (l.i ≤ l.n)
