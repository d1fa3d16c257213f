-- `keep_frame` meets its contract: what the journal answers, as a number. Assumes nothing.
use mathlib.Core.Path.{sym, ap, ◌∙◌}
use Rattle.journal.specs.Journal.{says_kept}
use Rattle.rtcm2.specs.Answer.{number_of, left}
use Rattle.rtcm2.proofs.frames.keep_frame.Goals as goal

pub returns-in-Done : goal.returns-in-Done
returns-in-Done c =
    let e = sym c.in-Done.is ∙ c.keep.ensures.value in
    record { value = ap (λ a. number_of (says_kept a)) e; frame_after = c.keep.ensures.buffer_after; length_after = ap (λ a. left (says_kept a) (λ j. j) c.args.length.now) e }

pub returns-in-Refused : goal.returns-in-Refused
returns-in-Refused c =
    let e = sym c.in-Refused.is ∙ c.keep.ensures.value in
    record { value = ap (λ a. number_of (says_kept a)) e; frame_after = c.keep.ensures.buffer_after; length_after = ap (λ a. left (says_kept a) (λ j. j) c.args.length.now) e }
