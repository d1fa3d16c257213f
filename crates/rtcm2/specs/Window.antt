-- The call that tests one window. Assumes nothing.
use Rattle.std.specs.Prelude.{ℕ}
use Rattle.answer.specs.Order.{Says, answers}
use Rattle.word.specs.Answer.{remainder_at}

-- the remainder of a window, a word with the two bits before it: never refused
abbrev pub remainder_said : ℕ → Says ℕ
remainder_said window = answers (remainder_at window)
