-- A frame value and the data of its N + 2 words, as numbers of 24 bits, word 1 first. Assumes nothing.
use Rattle.std.specs.Prelude.{List, [], ◌∷◌, ◌++◌, ℕ, ◌-◌, ◌^◌, ◌<◌, length, take, drop, get_or, replicate}
use Rattle.bits.specs.Bits.{bits, number}
use Rattle.frame.specs.Header.{header_of, first_word, second_word}
use Rattle.frame.specs.declared.State.TheVariants.{Factor}
use Rattle.frame.specs.declared.Header.{Header}
use Rattle.frame.specs.declared.Carried.{Carried}
use Rattle.frame.specs.declared.Frame.{Frame}

-- carried bits 00
abbrev pub zero_pair : Carried
zero_pair = record { d29 = 0; d30 = 0 }

-- THE ONE FORM of a frame that did not come from the line: made, recalled, or given by its numbers. It has carried bits 00
abbrev pub built_of : Header → ℕ → List ℕ → Frame
built_of h n ws = record { header = h; carried = zero_pair; n = n; words = ws }

-- the same frame after these two bits
unfoldable pub after_pair : Carried → Frame → Frame
after_pair c f = record { header = f.header; carried = c; n = f.n; words = f.words }

-- THE FRAME WITHOUT ITS PAIR, which the writer and the journal of data do not look at: the same after 00
abbrev pub bare : Frame → Frame
bare f = after_pair zero_pair f

-- THE FRAME ON A LINE TURNED OVER: its two carried bits the other way round, and nothing else
abbrev pub turned_pair : Carried → Carried
turned_pair c = record { d29 = 1 - c.d29; d30 = 1 - c.d30 }

abbrev pub turned_frame : Frame → Frame
turned_frame f = after_pair (turned_pair f.carried) f

-- the frame with this header and these data words: words past N are zero
unfoldable pub framed : Header → List ℕ → Frame
framed h ws = built_of h (length ws) (ws ++ replicate (31 - length ws) 0)

-- the data words of a frame
abbrev pub data_words : Frame → List ℕ
data_words f = take f.n f.words

-- all its words: word 1, word 2, the data words
unfoldable pub words_of : Frame → List ℕ
words_of f = number (first_word f.header) ∷ number (second_word f.header f.n) ∷ data_words f

-- the frame of such words: the header's two, then the data words
unfoldable pub frame_of : List ℕ → Frame
frame_of ws = framed (header_of (bits 24 (get_or ws 0 0)) (bits 24 (get_or ws 1 0))) (drop 2 ws)

-- what stands for a frame where there is none: no type has the number 0, so every call that is given it refuses it with 5
unfoldable pub blank : Frame
blank = built_of (record { kind = 0; station = 0; z = 0; sequence = 0; state = Factor 100 }) 0 (replicate 31 0)

-- each of these words has at most 24 bits
abbrev pub Below : List ℕ → Type 0
Below [] = Unit {0}
Below (w ∷ ws) = (w < 2 ^ 24) × Below ws
