-- `five_of` meets its contract: what each byte carries, and the room for it. Assumes nothing.
use Rattle.std.proofs.Common.{ℕ, ◌+◌, ◌*◌, ◌<◌, ◌≤◌, List, length, sym, ap, ◌∙◌, subst, arith}
use Rattle.reader.specs.Five.{all_data, sixes_in}
use Rattle.reader.specs.Reading.{SixesAt, later}
use Rattle.reader.proofs.Bursts.{sixes-at}
use Rattle.reader.proofs.advance.five_of.Goals as goal

pub overflow_mul-later : goal.overflow_mul-later
overflow_mul-later c = omega (arith, c.later.ensures.1)

pub overflow_add-later : goal.overflow_add-later
overflow_add-later c = omega (arith, c.later.ensures.1)

pub returns : goal.returns
returns c =
    let bytes : List ℕ = c.args.bytes.now in
    let full : (c.args.c.end ≤ 1192) × (c.args.c.held + 24 < 32 + 30 * later c.args.c.words) × (c.args.at + 5 ≤ length bytes) = (omega arith, omega (arith, c.later.ensures.0), omega arith) in
    let at = c.args.at in
    let same = c.joined-five.ensures.1 in
    let all = ap all_data (sym same) ∙ sym c.all_data.ensures ∙ c.if-not-all_data.false in
    let sixes = c.thirty_of.ensures.1 ∙ ap sixes_in same in
    (full.0, full.1, c.thirty_of.ensures.0, subst (SixesAt bytes at) (sym sixes) (sixes-at 5 bytes at full.2 all))
