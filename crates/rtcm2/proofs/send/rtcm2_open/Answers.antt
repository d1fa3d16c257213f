-- `rtcm2_open` meets its contract: what the writer answers, as a number. Assumes nothing.
use mathlib.Core.Path.{sym, ap, ◌∙◌}
use Rattle.writer.specs.Answer.{says_opened}
use Rattle.rtcm2.specs.Answer.{number_of}
use Rattle.rtcm2.proofs.send.rtcm2_open.Goals as goal

pub returns-in-Done : goal.returns-in-Done
returns-in-Done c =
    record { value = ap (λ a. number_of (says_opened a)) (sym c.in-Done.is ∙ c.«open».ensures.value); line_after = c.«open».ensures.buffer_after }

pub returns-in-Refused : goal.returns-in-Refused
returns-in-Refused c =
    record { value = ap (λ a. number_of (says_opened a)) (sym c.in-Refused.is ∙ c.«open».ensures.value); line_after = c.«open».ensures.buffer_after }
