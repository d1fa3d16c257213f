-- Text: what reading and making say, and what the bytes lent for a text then hold. Assumes nothing.
use Rattle.std.specs.Prelude.{List, ℕ}
use Rattle.answer.specs.Order.{Says}
use Rattle.frame.specs.declared.Frame.{Frame}
use Rattle.record_stages.specs.Stages.{says_count, says_made}
use Rattle.record_texts.specs.Texts.{read_text, buffer_after, make_text}
use Rattle.rtcm2.specs.Answer.{left, and_then}
use Rattle.rtcm2.specs.Header.{headed}

-- READING: the refusal that there was, then 6, 7, 8, 11, 13, or the number of characters
abbrev pub text_said : Says Frame → List ℕ → Says ℕ
text_said said buffer = and_then said (λ f. says_count (read_text f buffer))

-- what the bytes then hold: the characters and past them what they held, or on a refusal what they held
abbrev pub text_after : Says Frame → List ℕ → List ℕ
text_after said buffer = left said (λ f. buffer_after f buffer) buffer

-- the length that is left: the number of characters, or on a refusal what it was
abbrev pub count_after : Says Frame → List ℕ → ℕ → ℕ
count_after said buffer size = left (text_said said buffer) (λ k. k) size

-- MAKING: 5, 6, 7, 12, 11
abbrev pub make_said : ℕ → ℕ → ℕ → ℕ → ℕ → List ℕ → Says Frame
make_said kind station z sequence health text = and_then (headed kind station z sequence health) (λ h. says_made (make_text h text))
