-- `rows_of` meets its contract: the rows of the characters that are left, put after what is there, are all. Assumes nothing.
use mathlib.Core.Path.{◌≡◌}
use mathlib.Core.List.{map}
use lib.ListN.{take}
use Rattle.record_fields.specs.Tables.{put_rows}
use Rattle.record_texts.specs.Texts.{widths, least, numbers}
use Rattle.record_texts.proofs.rows_of.Given as goal

abbrev pub invariant-loop-c : goal.invariant-loop-c
invariant-loop-c l =
    let it = l.c-iterator in
    put_rows widths least l.most (map numbers (take 90 l.text)) l.initial.rows ≡ put_rows widths least l.most (map numbers (take it.n it.iter.rest.now)) l.rows
