-- `passes` meets its contract: zeros pass, so nothing is left of both exactly where the word passes. Assumes nothing.
use Rattle.std.proofs.Common.{◌≡◌, Bool, true, false, ◌&&◌, refl, ◌∙◌}
use Rattle.bits.specs.Bits.{bits, number}
use Rattle.word.specs.Word.{rows, places, parity, data_of, received, computed, remainder_of, passes}
use Rattle.reader.proofs.division.passes.Goals as goal

with-true : (p q : Bool) → q ≡ true → p && q ≡ p
with-true true q e = e
with-true false q e = refl

zeros-pass : passes (bits 32 0) ≡ true
unfolding bits number rows places parity data_of received computed remainder_of passes
zeros-pass = refl

pub returns : goal.returns
returns c = c.left_over.ensures ∙ with-true (passes (bits 32 c.args.window)) (passes (bits 32 0)) zeros-pass
