-- `bit_of` meets its contract: by a loop over the bits, of which none before this one has the remainder. Assumes nothing.
use mathlib.Core.Path.{sym, ap, ◌∙◌}
use native.Mathlib.Omega.{arith}
use Rattle.word.specs.Answer.{remainder_at}
use Rattle.mender_words.proofs.Places.{alone, every-place, shifted, found, further}
use Rattle.mender_words.proofs.bit_of.Goals as goal

pub returns-then-remainder : goal.returns-then-remainder
returns-then-remainder c =
    let i = c.loop-place.place in
    let r = c.args.remainder in
    let bit = shifted i c.loop-place-test.true in
    bit ∙ ap alone (sym (found i r c.loop-place-test.true (sym (ap remainder_at bit) ∙ sym c.remainder.ensures ∙ c.if-remainder.true)))

pub loop-place-preserved : goal.loop-place-preserved
loop-place-preserved c =
    let i = c.loop-place.place in
    let r = c.args.remainder in
    let p = every-place r c.requires.0 c.requires.1 in
    let here = ap remainder_at (shifted i c.loop-place-test.true) in
    omega (arith, further i r c.loop-place-test.true p (λ e. c.if-remainder.false (c.remainder.ensures ∙ here ∙ e)) c.loop-place.invariant)

pub unreachable-requires : goal.unreachable-requires
unreachable-requires c =
    let p = every-place c.args.remainder c.requires.0 c.requires.1 in
    omega (arith, p.low)
