-- `holds_state` meets its contract: the tests in the order of the definition. Assumes nothing.
use mathlib.Core.Path.{refl, sym, ◌∙◌}
use borrow.Author.Tests.{lt-ltb, le-ltb, eq-eqb, ne_eqb}
use Rattle.rtcm2_state.proofs.StateLaws.{held-short, held-read}
use Rattle.rtcm2_state.proofs.holds_state.Goals as goal

pub returns-then-bytes-lt-SIZE : goal.returns-then-bytes-lt-SIZE
returns-then-bytes-lt-SIZE c = sym (held-short c.args.bytes.now c.if-bytes-lt-SIZE.true)

pub returns-then-number_at-ne-MARK : goal.returns-then-number_at-ne-MARK
returns-then-number_at-ne-MARK c =
    sym (held-read c.args.bytes.now c.if-bytes-lt-SIZE.false c.number_at.ensures refl refl ∙ rw (ne_eqb _ _ c.if-number_at-ne-MARK.true))

pub returns-then-number_at-ge2 : goal.returns-then-number_at-ge2
returns-then-number_at-ge2 c =
    sym (held-read c.args.bytes.now c.if-bytes-lt-SIZE.false c.number_at.ensures c.number_at-2.ensures refl
    ∙ rw (eq-eqb _ _ c.if-number_at-ne-MARK.false, le-ltb _ _ c.if-number_at-ge2.true))

pub returns : goal.returns
returns c =
    sym (held-read c.args.bytes.now c.if-bytes-lt-SIZE.false c.number_at.ensures c.number_at-2.ensures c.number_at-3.ensures
    ∙ rw (eq-eqb _ _ c.if-number_at-ne-MARK.false, lt-ltb _ _ c.if-number_at-ge2.false))
