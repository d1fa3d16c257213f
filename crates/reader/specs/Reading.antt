-- What the reader's calls answer, and the reader that they leave: each in the order of its refusals. Assumes nothing.
use Rattle.std.specs.Prelude.{◌≡◌, ℕ, zero, suc, ◌+◌, ◌-◌, ◌*◌, ◌%◌, ◌^◌, ◌<◌, ◌≤◌, Bool, true, false, cond, not, ◌&&◌, ◌||◌, List, [], ◌∷◌, ◌++◌, length, replicate, nat_lt, slice_index, Option, Some, None}
use Rattle.answer.specs.Order.{Says, refuses, answers, Check, in_order}
use Rattle.bits.specs.Bits.{number}
use Rattle.line.specs.Line.{is_data, six}
use Rattle.frame.specs.Frames.{blank}
use Rattle.frame.specs.declared.Frame.{Frame}
use Rattle.stream.specs.Standing.{size, stands, frame_at}
use Rattle.reader.specs.Cells.{held_bits, room_end, pushed_cells}
use Rattle.reader.specs.Five.{sixes_of}
use Rattle.reader.specs.Hunting.{fresh, hunt_of}
use Rattle.reader.specs.declared.hunt.Halt.{Halt}
use Rattle.reader.specs.declared.Candidate.{Candidate}
use Rattle.reader.specs.declared.Reader.{Reader}
use Rattle.reader.specs.declared.Answer.{Answer}
use Rattle.reader.specs.declared.Answer.TheVariants.{Done, Refused}
use Rattle.reader.specs.declared.checks.Ready.{Ready}
use Rattle.reader.specs.declared.checks.Ready.TheVariants as ready
use Rattle.reader.specs.declared.Next.{Next}
use Rattle.reader.specs.declared.FedAll.{FedAll}
use Rattle.reader.specs.declared.Taken.{Taken}

-- the bits held for a candidate; those of a reader
unfoldable pub candidate_bits : List ℕ → Candidate → List Bool
candidate_bits cells c = held_bits cells c.end c.held

abbrev pub bits_of : Reader → List Bool
bits_of r = candidate_bits r.cells r.candidate

-- a reader started fresh: the hunt starts at position 2
unfoldable pub started : Reader
started =
    record { cells = replicate 40 0; candidate = record { end = 0; held = 0; words = 0; at = 2; waits = false; tally = fresh }; ended = false }

-- the bits that so many words take, with the two before them
abbrev pub known_bits : ℕ → ℕ
known_bits zero = 0
known_bits (suc k) = 32 + 30 * k

-- REFUSAL 5: counts past what a reader can hold. The buffer has 1280 bits; an undecided position has at most 991 bits with the two before it, and one
-- byte brings six more; of its words at most 32 are known right, and these are among the bits held.
unfoldable pub past_by : ℕ → ℕ → ℕ → Bool → Bool
past_by end held words waits =
    nat_lt 1280 end || nat_lt end held || nat_lt (cond waits 997 991) held || nat_lt 32 words || nat_lt held (known_bits words)

unfoldable pub past_of : Candidate → Bool
past_of c = past_by c.end c.held c.words c.waits

abbrev pub past : Reader → Bool
past r = past_of r.candidate

-- A FRAME WAITS to be taken: the reader says so, and one stands in the bits held
unfoldable pub frame_waits : Reader → Bool
frame_waits r = r.candidate.waits && stands (bits_of r)

-- ---- the hunt goes on

-- the candidate where a hunt stops
unfoldable pub moved_to : ℕ → ℕ → ℕ → Halt → Candidate
moved_to at end held s =
    record { end = end; held = s.left; words = s.words; at = (at + (held - s.left)) % 2 ^ 32; waits = s.found; tally = s.tally }

-- six bits more, as a number
unfoldable pub step_cells : List ℕ → Candidate → ℕ → List ℕ
step_cells cells c six_bits = pushed_cells cells c.end c.held six_bits

unfoldable pub step_to : List ℕ → Candidate → ℕ → Candidate
step_to cells c six_bits =
    let end = room_end c.end c.held + 6 in
    moved_to c.at end (c.held + 6) (hunt_of (step_cells cells c six_bits) end (c.held + 6) c.words false c.tally)

unfoldable pub stepped_by : Reader → ℕ → Reader
stepped_by r b = record {
  cells = step_cells r.cells r.candidate (number (six b));
  candidate = step_to r.cells r.candidate (number (six b));
  ended = r.ended;
}

-- sixes, one after the other
unfoldable pub many_cells : List ℕ → Candidate → List ℕ → List ℕ
many_cells cells c [] = cells
many_cells cells c (s ∷ ss) = many_cells (step_cells cells c s) (step_to cells c s) ss

unfoldable pub many_to : List ℕ → Candidate → List ℕ → Candidate
many_to cells c [] = c
many_to cells c (s ∷ ss) = many_to (step_cells cells c s) (step_to cells c s) ss

-- bytes from a place on that carry these sixes
abbrev pub SixesAt : List ℕ → ℕ → List ℕ → Type 0
SixesAt bytes at [] = Unit {0}
SixesAt bytes at (s ∷ ss) =
    (at < length bytes) × (is_data (slice_index bytes at) ≡ true) × (s ≡ number (six (slice_index bytes at))) × (s < 64) × SixesAt bytes (suc at) ss

-- the next word; where none is known the second, since no frame has less than two
abbrev pub later : ℕ → ℕ
later zero = 1
later (suc k) = suc k

-- of five bytes that carry sixes the first four bring no frame to its end, and there is room for all
abbrev pub FiveIn : Candidate → List ℕ → ℕ → Option ℕ → Type 0
FiveIn c bytes at (Some t) = (c.end ≤ 1192) × (c.held + 24 < 32 + 30 * later c.words) × (t < 2 ^ 30) × SixesAt bytes at (sixes_of t)
FiveIn c bytes at None = Unit {0}

-- ---- FEED: 5, 3, 2, 1

-- what feeding and ending have in common: 5, 3, 2
abbrev pub busy_by : Candidate → Bool → List Check
busy_by c ended = (past_of c, 5) ∷ (ended, 3) ∷ (c.waits, 2) ∷ []

abbrev pub busy : Reader → List Check
busy r = busy_by r.candidate r.ended

abbrev pub ready_of : Candidate → Bool → Ready
ready_of c ended = in_order (busy_by c ended) ready.Refused ready.Yes

unfoldable pub fed_by : Reader → ℕ → Next
fed_by r b =
    let next : Next = record { answer = Done; reader = stepped_by r b } in
    in_order (busy r ++ ((not (is_data b), 1) ∷ [])) (λ n. record { answer = Refused n; reader = r }) next

-- ---- FEED ALL: 5, 3, 2; bytes until a frame waits or none is left, and a byte that carries no bit is passed over

pub record Run : Type 0 where
  pub cells : List ℕ
  pub candidate : Candidate
  pub used : ℕ
  pub passed : ℕ

abbrev pub spent : ℕ → ℕ → Run → Run
spent u p x = record { cells = x.cells; candidate = x.candidate; used = u + x.used; passed = p + x.passed }

unfoldable pub run_to : List ℕ → Candidate → List ℕ → Run
run_to cells c [] = record { cells = cells; candidate = c; used = 0; passed = 0 }
run_to cells c (b ∷ bs) =
    let stop : Run = record { cells = cells; candidate = c; used = 0; passed = 0 } in
    let on = spent 1 0 (run_to (step_cells cells c (number (six b))) (step_to cells c (number (six b))) bs) in
    let over = spent 1 1 (run_to cells c bs) in
    cond c.waits stop (cond (is_data b) on over)

abbrev pub ran_by : Reader → Run → FedAll
ran_by r x = record { answer = Done; used = x.used; passed = x.passed; reader = record { cells = x.cells; candidate = x.candidate; ended = r.ended } }

unfoldable pub fed_all_by : Reader → List ℕ → FedAll
fed_all_by r bs =
    let next = ran_by r (run_to r.cells r.candidate bs) in
    in_order (busy r) (λ n. record { answer = Refused n; used = 0; passed = 0; reader = r }) next

-- ---- END: 5, 3, 2

unfoldable pub end_to : List ℕ → Candidate → Candidate
end_to cells c = moved_to c.at c.end c.held (hunt_of cells c.end c.held c.words true c.tally)

unfoldable pub ended_by : Reader → Next
ended_by r =
    let next : Next = record { answer = Done; reader = record { cells = r.cells; candidate = end_to r.cells r.candidate; ended = true } } in
    in_order (busy r) (λ n. record { answer = Refused n; reader = r }) next

-- ---- TAKE: 5, 4; the frame and the position of its first bit, and the hunt goes on at the bit after it; on a refusal a blank frame

unfoldable pub take_to : List ℕ → Candidate → Bool → Candidate
take_to cells c ended =
    let n = 30 * size (candidate_bits cells c) in
    moved_to c.at c.end c.held (hunt_of cells c.end (c.held - n) 0 ended c.tally)

abbrev pub refused_taking : Reader → ℕ → Taken
refused_taking r n = record { answer = Refused n; at = 0; frame = blank; reader = r }

unfoldable pub taken_by : Reader → Taken
taken_by r =
    let next : Taken = record {
      answer = Done;
      at = r.candidate.at;
      frame = frame_at (bits_of r);
      reader = record { cells = r.cells; candidate = take_to r.cells r.candidate r.ended; ended = r.ended };
    } in
    in_order ((past r, 5) ∷ (not (frame_waits r), 4) ∷ []) (refused_taking r) next

-- ---- an answer in the table's terms

abbrev pub says_answer : Answer → Says (Unit {0})
says_answer Done = answers tt
says_answer (Refused n) = refuses n

-- other values in place of those that an answer has
abbrev pub carrying : {A B : Type 0} → B → Says A → Says B
carrying v (refuses n) = refuses n
carrying v (answers a) = answers v

-- feeding a byte and ending: no value
abbrev pub says_next : Next → Says (Unit {0})
says_next x = says_answer x.answer

-- feeding bytes: how many were used, and how many of those carry no bit
abbrev pub says_fed_all : FedAll → Says (ℕ × ℕ)
says_fed_all x = carrying (x.used, x.passed) (says_answer x.answer)

-- taking: the position and the frame
abbrev pub says_taken : Taken → Says (ℕ × Frame)
says_taken x = carrying (x.at, x.frame) (says_answer x.answer)
