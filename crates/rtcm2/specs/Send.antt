-- Writing the line: what opening and writing say, and what the lent line then holds. Assumes nothing.
use Rattle.std.specs.Prelude.{List, ℕ}
use Rattle.answer.specs.Order.{Says}
use Rattle.frame.specs.declared.Frame.{Frame}
use Rattle.writer.specs.Answer.{opened_by, says_opened, written_by, written_to, says_written}
use Rattle.frame.specs.declared.Carried.{Carried}
use Rattle.rtcm2.specs.Answer.{left, and_then}

-- OPENING: 13
abbrev pub open_said : List ℕ → Says (Unit {0})
open_said line = says_opened (opened_by line)

-- the two carried bits as a pair
abbrev pub pair_of : ℕ → ℕ → Carried
pair_of d29 d30 = record { d29 = d29; d30 = d30 }

-- WRITING: the refusal that there was, or how many bytes are written and the pair that they carry on
abbrev pub write_said : Says Frame → ℕ → ℕ → List ℕ → Says (ℕ × Carried)
write_said said d29 d30 line = and_then said (λ f. says_written (written_by f (pair_of d29 d30) line))

-- the line after it; on a refusal what it held
abbrev pub line_lent : Says Frame → ℕ → ℕ → List ℕ → List ℕ
line_lent said d29 d30 line = left said (λ f. written_to f (pair_of d29 d30) line) line

-- the two bits after it, the pair that was carried on, or on a refusal what they were
abbrev pub d29_after : Says Frame → ℕ → ℕ → List ℕ → ℕ
d29_after said d29 d30 line = left (write_said said d29 d30 line) (λ a. a.1.d29) d29

abbrev pub d30_after : Says Frame → ℕ → ℕ → List ℕ → ℕ
d30_after said d29 d30 line = left (write_said said d29 d30 line) (λ a. a.1.d30) d30

-- the length that is left: how many bytes are written, or on a refusal what it was
abbrev pub count_after : Says Frame → ℕ → ℕ → List ℕ → ℕ → ℕ
count_after said d29 d30 line size = left (write_said said d29 d30 line) (λ a. a.0) size
