-- The null frame: what reading and making say. Assumes nothing.
use Rattle.std.specs.Prelude.{ℕ}
use Rattle.answer.specs.Order.{Says}
use Rattle.frame.specs.declared.Frame.{Frame}
use Rattle.record_stages.specs.Stages.{says_made}
use Rattle.record_nulls.specs.Nulls.{read_null, says_null_read, make_null}
use Rattle.rtcm2.specs.Answer.{and_then}
use Rattle.rtcm2.specs.Header.{headed}

-- READING: the refusal that there was, then 6, 7, 8, or N
abbrev pub null_said : Says Frame → Says ℕ
null_said said = and_then said (λ f. says_null_read (read_null f))

-- MAKING with N words: 5, 6, 7, 12
abbrev pub make_said : ℕ → ℕ → ℕ → ℕ → ℕ → ℕ → Says Frame
make_said kind station z sequence health n = and_then (headed kind station z sequence health) (λ h. says_made (make_null h n))
