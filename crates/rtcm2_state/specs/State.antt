-- A reader's state as bytes: numbers of four bytes each, low byte first. Assumes nothing.
use Rattle.std.specs.Prelude.{Bool, cond, ◌&&◌, ◌||◌, not, List, [], ◌∷◌, ◌++◌, ℕ, ◌+◌, ◌*◌, ◌^◌, ltb, leb, eqb, length, drop, get_or}
use Rattle.answer.specs.Order.{Says, refuses, answers, Check, in_order}
use Rattle.bits.specs.Bits.{val}
use Rattle.reader.specs.Reading.{started}
use Rattle.reader.specs.declared.Tally.{Tally}
use Rattle.reader.specs.declared.Candidate.{Candidate}
use Rattle.reader.specs.declared.Reader.{Reader}
use Rattle.rtcm2_state.specs.Numbers.{numbers_written, numbers_in}
use Rattle.rtcm2_state.specs.declared.Stored.{Stored}
use Rattle.rtcm2_state.specs.declared.Stored.TheVariants as stored

-- THE SIZES: a state is nine numbers, its start, and the forty cells; of each how many numbers, and how many bytes
abbrev pub start_count : ℕ
start_count = 9

abbrev pub state_count : ℕ
state_count = start_count + 40

abbrev pub start_size : ℕ
start_size = 4 * start_count

abbrev pub state_size : ℕ
state_size = 4 * state_count

-- the mark, bytes 52 32 53 32; then the counts, whether a frame waits, whether the input has ended
abbrev pub counts_of : Candidate → Bool → List ℕ
counts_of c ended = 0x32533252 ∷ c.end ∷ c.held ∷ c.words ∷ c.at ∷ val c.waits ∷ val ended ∷ []

-- the two counters
abbrev pub tally_of : Tally → List ℕ
tally_of t = t.odd ∷ t.even ∷ []

abbrev pub start_of : Candidate → Bool → List ℕ
start_of c ended = counts_of c ended ++ tally_of c.tally

-- the numbers of a reader: the start and the cells
unfoldable pub state_numbers : Reader → List ℕ
state_numbers r = start_of r.candidate r.ended ++ r.cells

-- the reader of such numbers
unfoldable pub reader_of : List ℕ → Reader
reader_of ns = record {
  cells = drop start_count ns;
  candidate = record {
    end = get_or ns 1 0;
    held = get_or ns 2 0;
    words = get_or ns 3 0;
    at = get_or ns 4 0;
    waits = eqb (get_or ns 5 0) 1;
    tally = record { odd = get_or ns 7 0; even = get_or ns 8 0 };
  };
  ended = eqb (get_or ns 6 0) 1;
}

-- numbers of a state: the mark, and 0 or 1 for the two that are said by yes and no
unfoldable pub are_state : List ℕ → Bool
are_state ns = eqb (get_or ns 0 0) 0x32533252 && ltb (get_or ns 5 0) 2 && ltb (get_or ns 6 0) 2

-- HELD: there are enough bytes, and the first of them are a state
unfoldable pub holds_state : List ℕ → Bool
holds_state bs = not (ltb (length bs) state_size) && are_state (numbers_in state_count bs)

-- READ: the reader whose state is held, or a fresh one
unfoldable pub state_in : List ℕ → Reader
state_in bs = cond (holds_state bs) (reader_of (numbers_in state_count bs)) started

-- ---- PUTTING: 5, 13; a refusal leaves every byte

-- a count that four bytes can't hold
unfoldable pub too_wide : Candidate → Bool
too_wide c = leb (2 ^ 32) c.end || leb (2 ^ 32) c.held || leb (2 ^ 32) c.words

abbrev pub put_checks : Candidate → List ℕ → List Check
put_checks c bs = (too_wide c, 5) ∷ (ltb (length bs) state_size, 13) ∷ []

abbrev pub stored_by : Candidate → List ℕ → Stored
stored_by c bs = in_order (put_checks c bs) stored.Refused stored.Done

-- THE STATE: as many bytes as it takes become the reader's, those past them stay
unfoldable pub state_put : Reader → List ℕ → List ℕ
state_put r bs = in_order (put_checks r.candidate bs) (λ n. bs) (numbers_written (state_numbers r) ++ drop state_size bs)

-- THE START alone: its bytes become the mark, the counts, whether a frame waits and the input has ended, and the two counters; all others stay
unfoldable pub start_put : Candidate → Bool → List ℕ → List ℕ
start_put c ended bs = in_order (put_checks c bs) (λ n. bs) (numbers_written (start_of c ended) ++ drop start_size bs)

-- ---- in the table's terms
abbrev pub says_stored : Stored → Says (Unit {0})
says_stored stored.Done = answers tt
says_stored (stored.Refused n) = refuses n
