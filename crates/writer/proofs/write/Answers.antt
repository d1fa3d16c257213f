-- `write` meets its contract: the checks in the order of the definition, then the frame's words put after the pair. Assumes nothing.
use mathlib.Core.Path.{◌≡◌, sym, ◌∙◌}
use mathlib.Core.Bool.{false}
use native.Mathlib.Omega.{arith}
use lib.ListN.{length, length-take}
use borrow.Author.Rules.{rules}
use borrow.Author.Tests.{le-ltb}
use Rattle.answer.specs.Order.{NoneApplies}
use Rattle.frame.specs.Widths.{outside}
use Rattle.frame.proofs.WidthLaws.{told-within, told-hour}
use Rattle.writer.specs.Answer.{write_checks}
use Rattle.writer.proofs.Answers.{header_refused, told_below, write_done}
use Rattle.writer.proofs.write.Goals as goal

-- ---- the refusal that the check does not find alone
pub returns-in_default : goal.returns-in_default
returns-in_default c =
    let out = header_refused c.args.frame _ (sym c.in_default.is ∙ c.header_words.ensures) in
    record {
      value = rw (le-ltb _ _ c.if-carried-gt1.false, le-ltb _ _ c.if-carried-gt1-2.false, out);
      buffer_after = rw (le-ltb _ _ c.if-carried-gt1.false, le-ltb _ _ c.if-carried-gt1-2.false, out);
    }

-- ---- the answer
pub put_frame-last-requires : goal.put_frame-last-requires
put_frame-last-requires c =
    let inside : outside c.args.frame ≡ false = told-within _ (sym c.in-Ok-frame_widths.is ∙ c.frame_widths.ensures) in
    let below = told_below _ inside _ _ (sym c.in-Ok.is ∙ c.header_words.ensures) in
    record { carried_bound = omega (arith, c.if-carried-gt1, c.if-carried-gt1-2); first_bound = below.0; second_bound = below.1.0; below = below.1.1; in_bounds = omega (arith, length-take c.args.frame.n c.args.frame.words) }

pub returns : goal.returns
returns c =
    let inside : outside c.args.frame ≡ false = told-within _ (sym c.in-Ok-frame_widths.is ∙ c.frame_widths.ensures) in
    let hour = told-hour _ (sym c.in-Ok-clock_of.is ∙ c.clock_of.ensures) in
    let none : NoneApplies (write_checks c.args.frame c.args.carried c.args.buffer.now) =
    (le-ltb _ _ c.if-carried-gt1.false, (le-ltb _ _ c.if-carried-gt1-2.false, (inside, (hour, (le-ltb _ _ c.if-buffer-bytes.false, tt))))) in
    let full : length c.args.frame.words ≡ 31 = search rules in
    let said = write_done _ _ _ none full _ _
    (sym c.in-Ok.is ∙ c.header_words.ensures) (c.put_frame-last.ensures.value, c.put_frame-last.ensures.buffer_after) in
    record { value = said.0; buffer_after = said.1 }
