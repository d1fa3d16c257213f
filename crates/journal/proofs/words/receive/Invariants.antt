-- `receive` meets its contract: word after word. Assumes nothing.
use mathlib.Core.Path.{◌≡◌}
use mathlib.Core.List.{◌++◌}
use lib.ListN.{take, drop}
use Rattle.journal.specs.Words.{data_in}
use Rattle.journal.proofs.words.receive.Given as goal

-- the data so far, and the words that are left
abbrev pub invariant-loop-word : goal.invariant-loop-word
invariant-loop-word l = l.words ≡ data_in (take l.word-index l.initial.words) ++ drop l.word-index l.initial.words
