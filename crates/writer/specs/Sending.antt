-- From frames to line bytes: words sent one after the other, each carrying its last two bits on, and six line bits a byte. Assumes nothing.
use Rattle.std.specs.Prelude.{Bool, false, List, [], ◌∷◌, ◌++◌, ℕ, zero, suc, ◌+◌, ◌-◌, ◌*◌, ◌%◌, length, take, drop, get_or}
use Rattle.bits.specs.Bits.{val, is_nonzero, bits, number}
use Rattle.line.specs.Line.{byte_of}
use Rattle.word.specs.Word.{nth, d29*, d30*, sent}
use Rattle.word.specs.Answer.{sent_at}
use Rattle.frame.specs.Frames.{words_of}
use Rattle.frame.specs.declared.Frame.{Frame}
use Rattle.frame.specs.declared.Carried.{Carried}

-- the bits of words sent after the carried bits a, b: D29 and D30 of each word are the carried bits of the next
unfoldable pub sent_from : Bool → Bool → List ℕ → List Bool
sent_from a b [] = []
sent_from a b (w ∷ ws) =
    let word = sent a b (bits 24 w) in
    word ++ sent_from (nth word 29) (nth word 30) ws

-- THE BITS OF A FRAME written after the carried bits a, b
abbrev pub sent_bits : Bool → Bool → Frame → List Bool
sent_bits a b f = sent_from a b (words_of f)

-- the same after a carried pair
abbrev pub bits_after : Carried → Frame → List Bool
bits_after c f = sent_bits (is_nonzero c.d29) (is_nonzero c.d30) f

-- the pair that bits carry on: their last two
abbrev pub carried_on : List Bool → Carried
carried_on bs = record { d29 = val (get_or bs (length bs - 2) false); d30 = val (get_or bs (length bs - 1) false) }

-- n data bytes for line bits, six a byte
unfoldable pub bytes_for : ℕ → List Bool → List ℕ
bytes_for zero bs = []
bytes_for (suc n) bs = byte_of (take 6 bs) ∷ bytes_for n (drop 6 bs)

-- a frame is 5(N + 2) bytes
abbrev pub line_length : Frame → ℕ
line_length f = 5 * (f.n + 2)

-- ---- a carried pair as a number of two bits, D29* the higher

-- the bits of words sent after it
abbrev pub sent_after : ℕ → List ℕ → List Bool
sent_after c ws = sent_from (d29* (bits 2 c)) (d30* (bits 2 c)) ws

-- their bytes, five a word
abbrev pub bytes_after : ℕ → List ℕ → List ℕ
bytes_after c ws = bytes_for (5 * length ws) (sent_after c ws)

-- the pair that they carry on
abbrev pub pair_after : ℕ → List ℕ → ℕ
pair_after c [] = c
pair_after c (w ∷ ws) = pair_after (number (sent_at c w) % 4) ws
