-- rtcm2_read AMONG THE CALLS THAT READ THE LINE: on the bytes of a state after rtcm2_start it does what READ ROWS does of the package's reader, as Turns
-- of promises has it: feeding and taking in turns, each row with its frame, which rtcm2_recall gives of the bytes from the seventh on.
-- Assumes nothing.
use Rattle.std.specs.Prelude.{◌≡◌, List, [], ◌∷◌, map, ℕ}
use Rattle.reader.specs.Reading.{started}
use Rattle.reader.specs.Rows.{rows_by, rows_to, says_rows}
use Rattle.reader.specs.declared.Reader.{Reader}
use Rattle.record_fields.specs.Coding.{Each}
use Rattle.rtcm2_state.specs.State.{state_in, state_put}
use Rattle.rtcm2.specs.Answer.{number_of, left}
use Rattle.rtcm2.specs.Line.{rows_in}
use Rattle.promises.specs.Calls.{reply_to}
use Rattle.promises.specs.Turns.{RowCall, one, reads, came_all}
use Rattle.rtcm2_promises.specs.LineCalls.{LineCall, HasRoom, asks, says_number, reply_in, after_in, begun_in}

-- a call of LineCalls, or rtcm2_read with bytes into lent rows
pub data ReadCall : Type 0 where
  line : LineCall → ReadCall
  read : (bytes rows : List ℕ) → ReadCall

abbrev pub ReadRoom : ReadCall → Type 0
ReadRoom (line c) = HasRoom c
ReadRoom (read bytes rows) = Unit {0}

-- the call of the package that it stands for
abbrev pub asks_rows : ReadCall → RowCall
asks_rows (line c) = one (asks c)
asks_rows (read bytes rows) = reads bytes rows

-- the state's bytes after it, and after all
unfoldable pub read_after : List ℕ → ReadCall → List ℕ
read_after state (line c) = after_in state c
read_after state (read bytes rows) = left (rows_in state bytes rows) (λ x. state_put x.reader state) state

unfoldable pub read_after_all : List ℕ → List ReadCall → List ℕ
read_after_all state [] = state
read_after_all state (c ∷ cs) = read_after_all (read_after state c) cs

-- the package's reader after the same calls
abbrev pub reader_after : List ReadCall → Reader
reader_after cs = (came_all started (map asks_rows cs)).reader

-- THE NEXT CALL, on the bytes `held` that hold the reader r: rtcm2_read says by its number and its three places what READ ROWS says, and leaves the
-- rows that it leaves; and any other call replies as that reader does
pub record RepliesAlike (held : List ℕ) (r : Reader) : Type 0 where
  pub says : (bytes rows : List ℕ) (u p n : ℕ) → let s = rows_in held bytes rows in
      says_number (number_of s) (left s (λ x. x.used) u, (left s (λ x. x.passed) p, left s (λ x. x.count) n)) ≡ says_rows (rows_by r bytes rows)
  pub rows : (bytes rows : List ℕ) → left (rows_in held bytes rows) (λ x. rows_to (state_in held) bytes rows) rows ≡ rows_to r bytes rows
  pub reply : (c : LineCall) → HasRoom c → reply_in held c ≡ reply_to r (asks c)

-- after any calls the bytes are the state of the package's reader, those past them as they were
pub record ReadsRows (state : List ℕ) (cs : List ReadCall) : Type 0 where
  pub bytes : read_after_all (begun_in state) cs ≡ state_put (reader_after cs) state
  pub alike : RepliesAlike (read_after_all (begun_in state) cs) (reader_after cs)

abbrev pub LibraryRows : List ℕ → Type 0
LibraryRows state = (cs : List ReadCall) → Each ReadRoom cs → ReadsRows state cs
