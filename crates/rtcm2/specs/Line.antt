-- The calls that read the line: what each says of the bytes that hold a reader's state. Assumes nothing.
use Rattle.std.specs.Prelude.{cond, List, ℕ, ltb, length}
use Rattle.answer.specs.Order.{Says, refuses, answers}
use Rattle.reader.specs.Reading.{started, fed_by, fed_all_by, ended_by, taken_by}
use Rattle.reader.specs.Rows.{rows_by}
use Rattle.reader.specs.declared.Tally.{Tally}
use Rattle.reader.specs.declared.Reader.{Reader}
use Rattle.reader.specs.declared.Answer.{Answer}
use Rattle.reader.specs.declared.Answer.TheVariants.{Done, Refused}
use Rattle.reader.specs.declared.Next.{Next}
use Rattle.reader.specs.declared.FedAll.{FedAll}
use Rattle.reader.specs.declared.Taken.{Taken}
use Rattle.reader.specs.declared.rows.RowsRead.{RowsRead}
use Rattle.journal.specs.Journal.{kept_by, says_kept}
use Rattle.rtcm2_state.specs.State.{state_size, holds_state, state_in}
use Rattle.rtcm2.specs.Answer.{and_then}

-- REFUSAL 5: bytes that hold no state
abbrev pub held_in : List ℕ → Says Reader
held_in state = cond (holds_state state) (answers (state_in state)) (refuses 5)

-- what a call of the reader left, or its refusal
abbrev pub done_by : {A : Type 0} → Answer → A → Says A
done_by Done left = answers left
done_by (Refused n) left = refuses n

-- a call of the reader that is held: 5, then the call's own refusals
abbrev pub read_by : {A : Type 0} → (A → Answer) → (Reader → A) → List ℕ → Says A
read_by answer call state = and_then (held_in state) (λ r. done_by (answer (call r)) (call r))

-- START: 13
unfoldable pub started_in : List ℕ → Says Reader
started_in state = cond (ltb (length state) state_size) (refuses 13) (answers started)

-- COUNTS: 5
unfoldable pub counts_in : List ℕ → Says Tally
counts_in state = and_then (held_in state) (λ r. answers r.candidate.tally)

-- FEED: 5, 3, 2, 1
unfoldable pub fed_in : List ℕ → ℕ → Says Next
fed_in state byte = read_by (λ (n : Next). n.answer) (λ r. fed_by r byte) state

-- FEED ALL: 5, 3, 2
unfoldable pub fed_all_in : List ℕ → List ℕ → Says FedAll
fed_all_in state bytes = read_by (λ (f : FedAll). f.answer) (λ r. fed_all_by r bytes) state

-- READ: 5, then 5, 3, 13
unfoldable pub rows_in : List ℕ → List ℕ → List ℕ → Says RowsRead
rows_in state bytes rows = read_by (λ (x : RowsRead). x.answer) (λ r. rows_by r bytes rows) state

-- END: 5, 3, 2
unfoldable pub ended_in : List ℕ → Says Next
ended_in state = read_by (λ (n : Next). n.answer) ended_by state

-- TAKE: 5, 4, then what keeping the frame refuses; the length of the frame's record, and what taking left
unfoldable pub taken_in : List ℕ → List ℕ → Says (ℕ × Taken)
taken_in state frame =
    and_then (read_by (λ (t : Taken). t.answer) taken_by state) (λ t. and_then (says_kept (kept_by t.frame frame)) (λ size. answers (size, t)))
