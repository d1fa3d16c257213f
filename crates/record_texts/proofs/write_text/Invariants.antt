-- `write_text` meets its contract: the characters that are written stand in the text. Assumes nothing.
use Rattle.std.proofs.Common.{◌≡◌, ℕ, ◌<◌, get_or}
use Rattle.bits.specs.Rows.{data_bits}
use Rattle.record_fields.specs.Coding.{entry_in}
use Rattle.record_texts.specs.Texts.{coding}
use Rattle.record_texts.proofs.write_text.Given as goal

abbrev pub invariant-loop-i : goal.invariant-loop-i
invariant-loop-i l = (k : ℕ) → k < l.i → get_or l.text k 0 ≡ entry_in coding k (data_bits l.words)
