-- What the frame's functions answer, and what each answer says in the table's terms. Assumes nothing.
use Rattle.std.specs.Prelude.{Result, Ok, Bool, cond, List, [], ◌∷◌, ℕ, ltb}
use Rattle.answer.specs.Order.{Says, in_order, says}
use Rattle.bits.specs.Bits.{bits, number}
use Rattle.frame.specs.Header.{code_of, first_word, second_word}
use Rattle.frame.specs.Widths.{state_outside, header_outside, outside, late}
use Rattle.frame.specs.declared.State.{State}
use Rattle.frame.specs.declared.Header.{Header}
use Rattle.frame.specs.declared.Frame.{Frame}
use Rattle.answer.specs.Table.{refused, granted}
use Rattle.answer.specs.declared.Refusal.{Refusal}

-- a state's health code: refusal 5
abbrev pub health_of : State → Result ℕ Refusal
health_of s = in_order ((state_outside s, 5) ∷ []) refused (Ok (code_of s))

-- the data of words 1 and 2: refusal 5, also for N over 31
abbrev pub header_words : Header → ℕ → Result (ℕ × ℕ) Refusal
header_words h n =
    in_order ((header_outside h, 5) ∷ (ltb 31 n, 5) ∷ []) refused
    (Ok (number (first_word h), number (second_word h n)))

-- the two stages that records, writer and journal share
abbrev pub header_widths : Header → Result (Unit {0}) Refusal
header_widths h = cond (header_outside h) (refused 5) granted

abbrev pub frame_widths : Frame → Result (Unit {0}) Refusal
frame_widths f = cond (outside f) (refused 5) granted

abbrev pub clock_of : ℕ → Result (Unit {0}) Refusal
clock_of z = cond (late z) (refused 7) granted

-- ---- in the table's terms

abbrev pub says_health_code : Result ℕ Refusal → Says ℕ
says_health_code = says (λ c. c)

abbrev pub says_words : Result (ℕ × ℕ) Refusal → Says (List Bool × List Bool)
says_words = says (λ w. (bits 24 w.0, bits 24 w.1))

abbrev pub says_widths : Result (Unit {0}) Refusal → Says (Unit {0})
says_widths = says (λ done. done)

abbrev pub says_clock : Result (Unit {0}) Refusal → Says (Unit {0})
says_clock = says (λ done. done)
