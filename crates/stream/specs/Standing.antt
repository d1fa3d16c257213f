-- What stands in a stream of line bits, by its definition and by nothing of how it is looked for.
-- A list d is always the stream from TWO BITS BEFORE a position: position p = 2 + q has d = drop q s, so p is at least 2. Assumes nothing.
use Rattle.std.specs.Prelude.{◌≡◌, Bool, true, ◌&&◌, cond, List, [], ◌∷◌, ℕ, zero, suc, ◌+◌, ◌-◌, ◌*◌, ◌≤◌, ◌<◌, leb, length, take, drop}
use Rattle.bits.specs.Bits.{val, number}
use Rattle.word.specs.Word.{d29*, d30*, data_of, passes}
use Rattle.frame.specs.Header.{preambled, n_of, header_of}
use Rattle.frame.specs.Frames.{framed, after_pair, turned_frame}
use Rattle.frame.specs.declared.Carried.{Carried}
use Rattle.frame.specs.declared.Frame.{Frame}

-- ---- the words of a position

-- word k, counted from 0, with the two bits before it
abbrev pub word_at : ℕ → List Bool → List Bool
word_at k d = take 32 (drop (30 * k) d)

-- word k is right: it passes parity, and the first has the preamble, which is tested on data with polarity undone
unfoldable pub right : ℕ → List Bool → Bool
right zero w = preambled (data_of w) && passes w
right (suc k) w = passes w

-- N, and how many words the frame has: the header's two and N
unfoldable pub n_at : List Bool → ℕ
n_at d = n_of (data_of (word_at 1 d))

abbrev pub size : List Bool → ℕ
size d = 2 + n_at d

-- ---- A FRAME STANDS: all its words have been taken, and each is right
pub record Stands (d : List Bool) : Type 0 where
  pub taken : 2 + 30 * size d ≤ length d
  pub each : (k : ℕ) → k < size d → right k (word_at k d) ≡ true

-- the data of n words from word k on
unfoldable pub data_from : ℕ → ℕ → List Bool → List ℕ
data_from zero k d = []
data_from (suc n) k d = number (data_of (word_at k d)) ∷ data_from n (suc k) d

-- the two bits before it
abbrev pub pair_before : List Bool → Carried
pair_before d = record { d29 = val (d29* d); d30 = val (d30* d) }

-- the frame that stands there: the two bits before it, the header of its first two words, and the N words after them
unfoldable pub frame_at : List Bool → Frame
frame_at d = after_pair (pair_before d) (framed (header_of (data_of (word_at 0 d)) (data_of (word_at 1 d))) (data_from (n_at d) 2 d))

-- a frame and the position of its first bit in the whole stream
pub record Placed : Type 0 where
  pub at : ℕ
  pub frame : Frame

unfoldable pub placed : ℕ → List Bool → Placed
placed p d = record { at = p; frame = frame_at d }

-- it on the line turned over: the same place, the pair turned
abbrev pub turned_placed : Placed → Placed
turned_placed h = record { at = h.at; frame = turned_frame h.frame }

-- the bit after its last
abbrev pub end_of : Placed → ℕ
end_of h = h.at + 30 * (2 + h.frame.n)

-- ---- THE SCAN of a whole stream, left to right

-- the definition as a test: the n words from word k on are right
unfoldable pub all_right : ℕ → ℕ → List Bool → Bool
all_right zero k d = true
all_right (suc n) k d = right k (word_at k d) && all_right n (suc k) d

unfoldable pub stands : List Bool → Bool
stands d = leb (2 + 30 * size d) (length d) && all_right (size d) 0 d

-- from position p on, after `skip` bits: a frame that stands is taken, and the scan goes on at the bit after it; else at the next bit
unfoldable pub scan : ℕ → ℕ → List Bool → List Placed
scan skip p [] = []
scan zero p (b ∷ d) =
    let found = placed p (b ∷ d) ∷ scan (30 * size (b ∷ d) - 1) (suc p) d in
    let none = scan zero (suc p) d in
    cond (stands (b ∷ d)) found none
scan (suc skip) p (b ∷ d) = scan skip (suc p) d

-- the frames of a whole stream: the hunt starts at position 2
abbrev pub frames_in : List Bool → List Placed
frames_in s = scan 0 2 s
