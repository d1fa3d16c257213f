-- What the writer's functions answer, and every byte of the buffer after them. Assumes nothing.
use Rattle.std.specs.Prelude.{List, [], ◌∷◌, ◌++◌, ℕ, ltb, length, drop}
use Rattle.answer.specs.Order.{Says, refuses, answers, Check, in_order}
use Rattle.frame.specs.Widths.{outside, late}
use Rattle.frame.specs.declared.Frame.{Frame}
use Rattle.writer.specs.Sending.{bits_after, carried_on, bytes_for, line_length}
use Rattle.frame.specs.declared.Carried.{Carried}
use Rattle.writer.specs.declared.Written.{Written}
use Rattle.writer.specs.declared.Written.TheVariants as written
use Rattle.writer.specs.declared.Opened.{Opened}
use Rattle.writer.specs.declared.Opened.TheVariants as opened

-- bytes written at the front of a buffer; the rest is as it was
abbrev pub over : List ℕ → List ℕ → List ℕ
over bytes buffer = bytes ++ drop (length bytes) buffer

-- ---- opening

-- the lead byte: six zero bits
abbrev pub lead : ℕ
lead = 0x40

-- OPENING: 13
abbrev pub open_checks : List ℕ → List Check
open_checks buffer = (ltb (length buffer) 1, 13) ∷ []

abbrev pub opened_by : List ℕ → Opened
opened_by buffer = in_order (open_checks buffer) opened.Refused opened.Done

-- the buffer after it
abbrev pub opened_to : List ℕ → List ℕ
opened_to buffer = in_order (open_checks buffer) (λ n. buffer) (over (lead ∷ []) buffer)

-- ---- writing

-- WRITING: 5, 7, 13; a carried bit that is not 0 or 1 is 5 too
abbrev pub write_checks : Frame → Carried → List ℕ → List Check
write_checks f c buffer =
    (ltb 1 c.d29, 5) ∷ (ltb 1 c.d30, 5) ∷ (outside f, 5)
    ∷ (late f.header.z, 7)
    ∷ (ltb (length buffer) (line_length f), 13)
    ∷ []

abbrev pub written_by : Frame → Carried → List ℕ → Written
written_by f c buffer = in_order (write_checks f c buffer) written.Refused (written.Done (line_length f) (carried_on (bits_after c f)))

-- the buffer after it
abbrev pub written_to : Frame → Carried → List ℕ → List ℕ
written_to f c buffer = in_order (write_checks f c buffer) (λ n. buffer) (over (bytes_for (line_length f) (bits_after c f)) buffer)

-- ---- in the table's terms

abbrev pub says_opened : Opened → Says (Unit {0})
says_opened opened.Done = answers tt
says_opened (opened.Refused n) = refuses n

abbrev pub says_written : Written → Says (ℕ × Carried)
says_written (written.Done bytes carried) = answers (bytes, carried)
says_written (written.Refused n) = refuses n
