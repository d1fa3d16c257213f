-- Feeding and taking in turns, each frame put as a row of bytes: 5, 3, 13. Assumes nothing.
use Rattle.std.specs.Prelude.{ℕ, zero, suc, ◌+◌, ◌/◌, ◌%◌, Bool, false, not, ◌&&◌, List, [], ◌∷◌, length, drop, nat_lt}
use Rattle.std.proofs.lemmas.List.Edits.{sets}
use Rattle.answer.specs.Order.{Says, Check, in_order}
use Rattle.frame.specs.declared.Frame.{Frame}
use Rattle.stream.specs.Standing.{stands}
use Rattle.journal.specs.Journal.{record_of}
use Rattle.reader.specs.Reading.{bits_of, past, fed_all_by, taken_by, carrying, says_answer}
use Rattle.reader.specs.declared.Candidate.{Candidate}
use Rattle.reader.specs.declared.Reader.{Reader}
use Rattle.reader.specs.declared.Answer.{Answer}
use Rattle.reader.specs.declared.Answer.TheVariants.{Done, Refused}
use Rattle.reader.specs.declared.FedAll.{FedAll}
use Rattle.reader.specs.declared.Taken.{Taken}
use Rattle.reader.specs.declared.rows.RowsRead.{RowsRead}
use Rattle.reader.specs.declared.rows.TurnsMade.{TurnsMade}

-- ---- rows

-- how many bytes a row has: four for the position, two for the carried pair, and room for the longest record
abbrev pub row_size : ℕ
row_size = 108

-- the row of a frame: the position of its first bit, low byte first; the two bits before it; its record
unfoldable pub row_of : ℕ → Frame → List ℕ
row_of at f = at % 256 ∷ at / 256 % 256 ∷ at / 65536 % 256 ∷ at / 16777216 % 256 ∷ f.carried.d29 ∷ f.carried.d30 ∷ record_of f

-- rows put one after the other from a byte on: what stands behind the record of a row, and past the last row, stays as it was
unfoldable pub rows_put : ℕ → List (ℕ × Frame) → List ℕ → List ℕ
rows_put start [] bytes = bytes
rows_put start (h ∷ hs) bytes = rows_put (start + row_size) hs (sets bytes start (row_of h.0 h.1))

-- ---- turns

-- what turns came to: the reader that is left, the bytes used, how many of those carry no bit, and each frame with its position
pub record Turns : Type 0 where
  pub reader : Reader
  pub used : ℕ
  pub passed : ℕ
  pub frames : List (ℕ × Frame)

-- nothing to take after feeding; a frame taken after it, and the turns that follow
abbrev pub stopped : FedAll → Turns
stopped fed = record { reader = fed.reader; used = fed.used; passed = fed.passed; frames = [] }

abbrev pub went_on : FedAll → Taken → Turns → Turns
went_on fed taken rest = record {
  reader = rest.reader;
  used = fed.used + rest.used;
  passed = fed.passed + rest.passed;
  frames = (taken.at, taken.frame) ∷ rest.frames;
}

abbrev pub taken_or : {A : Type 0} → Answer → A → A → A
taken_or Done on stop = on
taken_or (Refused n) on stop = stop

-- IN TURNS, so many times at most: the bytes that are left are fed, then the frame that waits is taken. Where one waits already, feeding is
-- refused, and uses no byte; where taking is refused, the turns end
unfoldable pub in_turns : ℕ → Reader → List ℕ → Turns
in_turns zero r bytes = record { reader = r; used = 0; passed = 0; frames = [] }
in_turns (suc k) r bytes =
    let fed = fed_all_by r bytes in
    let taken = taken_by fed.reader in
    taken_or taken.answer (went_on fed taken (in_turns k taken.reader (drop fed.used bytes))) (stopped fed)

-- ---- READ ROWS: 5, 3, 13; as many turns as there is room for rows

-- a reader that says that a frame waits where none stands takes no byte and hands out no frame
unfoldable pub stuck : Reader → Bool
stuck r = r.candidate.waits && not (stands (bits_of r))

abbrev pub rows_order : Reader → List ℕ → List Check
rows_order r rows = (past r, 5) ∷ (stuck r, 5) ∷ (r.ended, 3) ∷ (nat_lt (length rows) row_size, 13) ∷ []

abbrev pub rows_turns : Reader → List ℕ → List ℕ → Turns
rows_turns r bytes rows = in_turns (length rows / row_size) r bytes

abbrev pub no_rows : Reader → ℕ → RowsRead
no_rows r n = record { answer = Refused n; used = 0; passed = 0; count = 0; reader = r }

abbrev pub some_rows : Turns → RowsRead
some_rows t = record { answer = Done; used = t.used; passed = t.passed; count = length t.frames; reader = t.reader }

-- a reader whose input has not ended; and what turns left, with its cells
abbrev pub going : List ℕ → Candidate → Reader
going cells c = record { cells = cells; candidate = c; ended = false }

abbrev pub after_turns : List ℕ → TurnsMade → RowsRead
after_turns cells t = record { answer = Done; used = t.used; passed = t.passed; count = t.count; reader = going cells t.candidate }

unfoldable pub rows_by : Reader → List ℕ → List ℕ → RowsRead
rows_by r bytes rows = in_order (rows_order r rows) (no_rows r) (some_rows (rows_turns r bytes rows))

-- what the lent rows then hold
unfoldable pub rows_to : Reader → List ℕ → List ℕ → List ℕ
rows_to r bytes rows = in_order (rows_order r rows) (λ n. rows) (rows_put 0 (rows_turns r bytes rows).frames rows)

-- in the table's terms: bytes used, how many of those carry no bit, and rows put
abbrev pub says_rows : RowsRead → Says (ℕ × (ℕ × ℕ))
says_rows x = carrying (x.used, (x.passed, x.count)) (says_answer x.answer)
