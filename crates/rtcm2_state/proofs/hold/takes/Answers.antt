-- `takes` meets its contract: 5, 3, 2, and the room. Assumes nothing.
use mathlib.Core.Path.{◌≡◌, sym, ◌∙◌}
use mathlib.Core.Bool.{false}
use Rattle.reader.specs.Reading.{past_of}
use Rattle.rtcm2_state.specs.Holding.{takes_six}
use Rattle.rtcm2_state.proofs.Quiet.{takes-by}
use Rattle.rtcm2_state.proofs.hold.takes.Goals as goal

pub returns-then-past : goal.returns-then-past
unfolding takes_six
returns-then-past c = simp (sym c.past.ensures ∙ c.if-past.true)

pub returns-then-ended : goal.returns-then-ended
unfolding takes_six
returns-then-ended c =
    let fine : past_of c.args.c ≡ false = sym c.past.ensures ∙ c.if-past.false in
    simp (fine, c.if-ended.true)

pub returns-then-c : goal.returns-then-c
unfolding takes_six
returns-then-c c =
    let fine : past_of c.args.c ≡ false = sym c.past.ensures ∙ c.if-past.false in
    simp (fine, c.if-ended.false, c.if-c.true)

pub returns : goal.returns
returns c =
    let fine : past_of c.args.c ≡ false = sym c.past.ensures ∙ c.if-past.false in
    let a = c.args in
    takes-by a.c a.ended fine c.if-ended.false c.if-c.false
