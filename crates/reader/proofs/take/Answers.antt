-- `take` meets its contract: 5, 4, then the frame, and the hunt from the bit after it. Assumes nothing.
use Rattle.std.proofs.Common.{◌≡◌, true, false, length, sym, ◌∙◌, arith, rules}
use borrow.Author.Tests.{not-true, not-false}
use Rattle.stream.specs.Standing.{n_at}
use Rattle.stream.proofs.Words.{n-lt}
use Rattle.reader.specs.Reading.{bits_of, candidate_bits, past}
use Rattle.reader.specs.declared.Reader.{Reader}
use Rattle.reader.proofs.Accepted.{Accepted, to-accepted}
use Rattle.reader.proofs.Buffer.{length-held}
use Rattle.reader.proofs.TakeChecks.{take_past, take-flag, take-nothing, n-there, come-there, take_done}
use Rattle.reader.proofs.take.Goals as goal

pub returns-then-past : goal.returns-then-past
returns-then-past c =
    take_past c.args.reader (sym c.past.ensures ∙ c.if-past.true)
    c.untaken.result c.untaken.ensures

pub returns-then-not-c : goal.returns-then-not-c
returns-then-not-c c =
    take-flag c.args.reader (sym c.past.ensures ∙ c.if-past.false) (not-true _ c.if-not-c.true)
    c.untaken-then-not-c.result c.untaken-then-not-c.ensures

pub standing-requires : goal.standing-requires
standing-requires c =
    let len : length c.args.reader.cells ≡ 40 = search rules in
    let r : Reader = c.args.reader in
    let fine : past r ≡ false = sym c.past.ensures ∙ c.if-past.false in
    let counts : Accepted r.candidate = to-accepted r.candidate fine in
    (len, counts.top, counts.low)

pub returns-in_default : goal.returns-in_default
unfolding candidate_bits
returns-in_default c =
    let r : Reader = c.args.reader in
    let fine : past r ≡ false = sym c.past.ensures ∙ c.if-past.false in
    let flag : r.candidate.waits ≡ true = not-false r.candidate.waits c.if-not-c.false in
    take-nothing r fine flag c.in_default.ensures
    c.untaken-in_default.result c.untaken-in_default.ensures

pub overflow_add-frame : goal.overflow_add-frame
unfolding candidate_bits
overflow_add-frame c =
    let r : Reader = c.args.reader in
    let fine : past r ≡ false = sym c.past.ensures ∙ c.if-past.false in
    let flag : r.candidate.waits ≡ true = not-false r.candidate.waits c.if-not-c.false in
    let count : c.in-Some.frame.n ≡ n_at (bits_of r) = n-there r fine flag c.in-Some.frame c.in-Some.ensures in
    omega (arith, count, n-lt (bits_of r))

pub overflow_mul-frame : goal.overflow_mul-frame
unfolding candidate_bits
overflow_mul-frame c =
    let r : Reader = c.args.reader in
    let fine : past r ≡ false = sym c.past.ensures ∙ c.if-past.false in
    let flag : r.candidate.waits ≡ true = not-false r.candidate.waits c.if-not-c.false in
    let count : c.in-Some.frame.n ≡ n_at (bits_of r) = n-there r fine flag c.in-Some.frame c.in-Some.ensures in
    omega (arith, count, n-lt (bits_of r))

pub overflow_sub-c : goal.overflow_sub-c
unfolding candidate_bits
overflow_sub-c c =
    let r : Reader = c.args.reader in
    let fine : past r ≡ false = sym c.past.ensures ∙ c.if-past.false in
    let flag : r.candidate.waits ≡ true = not-false r.candidate.waits c.if-not-c.false in
    let counts : Accepted r.candidate = to-accepted r.candidate fine in
    let len : length r.cells ≡ 40 = search rules in
    let long : length (bits_of r) ≡ r.candidate.held = length-held r.cells r.candidate.end r.candidate.held len counts.top counts.low in
    come-there r fine flag c.in-Some.frame c.in-Some.ensures long

pub hunt-halt-requires : goal.hunt-halt-requires
hunt-halt-requires c =
    let len : length c.args.reader.cells ≡ 40 = search rules in
    let r : Reader = c.args.reader in
    let fine : past r ≡ false = sym c.past.ensures ∙ c.if-past.false in
    let counts : Accepted r.candidate = to-accepted r.candidate fine in
    let a = counts in
    (len, a.top, omega (arith, a.low), omega arith)

pub moved-last-requires : goal.moved-last-requires
moved-last-requires c =
    let r : Reader = c.args.reader in
    let fine : past r ≡ false = sym c.past.ensures ∙ c.if-past.false in
    let counts : Accepted r.candidate = to-accepted r.candidate fine in
    let a = counts in
    (omega (arith, c.hunt-halt.ensures.1), omega (arith, a.top, a.low))

pub returns : goal.returns
unfolding candidate_bits
returns c =
    let r : Reader = c.args.reader in
    let fine : past r ≡ false = sym c.past.ensures ∙ c.if-past.false in
    let flag : r.candidate.waits ≡ true = not-false r.candidate.waits c.if-not-c.false in
    take_done r fine flag c.in-Some.frame c.in-Some.ensures
    c.hunt-halt.result c.hunt-halt.ensures.0 c.moved-last.result c.moved-last.ensures
