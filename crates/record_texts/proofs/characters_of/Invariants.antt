-- `characters_of` meets its contract: what is left decides. Assumes nothing.
use mathlib.Core.Path.{◌≡◌}
use lib.ListN.{drop}
use Rattle.bits.specs.Rows.{data_bits}
use Rattle.frame.specs.Widths.{any_of}
use Rattle.record_texts.specs.Texts.{characters, forbidden}
use Rattle.record_texts.proofs.characters_of.Given as goal

abbrev pub invariant-loop-i : goal.invariant-loop-i
invariant-loop-i l =
    any_of (forbidden l.system) (characters l.count (data_bits l.words)) ≡ any_of (forbidden l.system) (drop l.i (characters l.count (data_bits l.words)))
