-- The journal that keeps the words: a frame's record and its two carried bits to the record of its words, and back. Assumes nothing.
use Rattle.std.specs.Prelude.{List, ℕ}
use Rattle.answer.specs.Order.{Says, answers}
use Rattle.frame.specs.Frames.{after_pair}
use Rattle.frame.specs.declared.Frame.{Frame}
use Rattle.journal.specs.Journal.{kept_by, held_by, says_kept, says_recalled}
use Rattle.journal.specs.Words.{kept_words, held_words, recalled_words}
use Rattle.rtcm2.specs.Answer.{left, and_then}
use Rattle.rtcm2.specs.Send.{pair_of}

-- KEEPING THE WORDS: the refusal that there was, or the length of the record of the frame after the two bits; 5 for a bit that is not 0 or 1, 13
abbrev pub words_kept : Says Frame → ℕ → ℕ → List ℕ → Says ℕ
words_kept said d29 d30 words = and_then said (λ f. says_kept (kept_words (after_pair (pair_of d29 d30) f) words))

-- what the lent bytes then hold; on a refusal what they held
abbrev pub words_held : Says Frame → ℕ → ℕ → List ℕ → List ℕ
words_held said d29 d30 words = left said (λ f. held_words (after_pair (pair_of d29 d30) f) words) words

-- the length that is left
abbrev pub words_size : Says Frame → ℕ → ℕ → List ℕ → ℕ → ℕ
words_size said d29 d30 words size = left (words_kept said d29 d30 words) (λ k. k) size

-- RECALLING THE WORDS: how many bytes were read, and the frame; 14, 15, 16, 15, 16, 17
abbrev pub live_said : List ℕ → Says (ℕ × Frame)
live_said words = says_recalled (recalled_words words)

-- and the length of the frame's record, which goes to the lent bytes; 13
abbrev pub back_said : Says (ℕ × Frame) → List ℕ → Says (ℕ × (ℕ × Frame))
back_said said frame = and_then said (λ r. and_then (says_kept (kept_by r.1 frame)) (λ k. answers (k, r)))

-- what these then hold; on a refusal what they held
abbrev pub back_held : Says (ℕ × Frame) → List ℕ → List ℕ
back_held said frame = left said (λ r. held_by r.1 frame) frame

-- the two carried bits, the bytes read, and the length of the frame's record
abbrev pub d29_back : ℕ × (ℕ × Frame) → ℕ
d29_back a = a.1.1.carried.d29

abbrev pub d30_back : ℕ × (ℕ × Frame) → ℕ
d30_back a = a.1.1.carried.d30

abbrev pub read_back : ℕ × (ℕ × Frame) → ℕ
read_back a = a.1.0

abbrev pub length_back : ℕ × (ℕ × Frame) → ℕ
length_back a = a.0
