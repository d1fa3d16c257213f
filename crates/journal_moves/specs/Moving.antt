-- Records of one form as records of the other, one at a time and a whole journal. RENEW: the form of data to the form of words, starting each record
-- from carried bits 00; RESTORE: back. Each refuses as reading does, and last with 13. Assumes nothing.
use Rattle.std.specs.Prelude.{List, [], ◌∷◌, ◌++◌, ℕ, zero, suc, ◌+◌, ◌-◌, ◌*◌, ltb, length, drop}
use Rattle.answer.specs.Order.{Says, refuses, answers, Check, in_order}
use Rattle.frame.specs.Frames.{frame_of}
use Rattle.journal.specs.Forms.{n_byte, words_after}
use Rattle.journal.specs.Journal.{record_of, recall_order}
use Rattle.journal.specs.Words.{words_record, data_in, recall_words_order}
use Rattle.journal_moves.specs.declared.Way.{Way}
use Rattle.journal_moves.specs.declared.Way.TheVariants.{New, Old}
use Rattle.journal_moves.specs.declared.Moved.{Moved}
use Rattle.journal_moves.specs.declared.Moved.TheVariants.{Done, Refused}
use Rattle.journal_moves.specs.declared.Stop.{Stop}
use Rattle.journal_moves.specs.declared.Stop.TheVariants as stop
use Rattle.journal_moves.specs.declared.Piece.{Piece}

-- ---- one record at the start of the bytes; what follows it is ignored

-- how many bytes a record of each form has
abbrev pub data_length : ℕ → ℕ
data_length n = 3 * n + 9

abbrev pub words_length : ℕ → ℕ
words_length n = 4 * n + 11

-- what is read and what is written
abbrev pub size_read : Way → ℕ → ℕ
size_read New n = data_length n
size_read Old n = words_length n

abbrev pub size_written : Way → ℕ → ℕ
size_written New n = words_length n
size_written Old n = data_length n

-- 14, 15, 16, 15, 16, then 17 where words are read
abbrev pub read_order : Way → List ℕ → List Check
read_order New bs = recall_order bs
read_order Old bs = recall_words_order bs

-- then 13
abbrev pub move_order : Way → List ℕ → ℕ → List Check
move_order w bs room = read_order w bs ++ ((ltb room (size_written w (n_byte bs)), 13) ∷ [])

-- the other record of the frame that was read; one that was kept as data has carried bits 00, and data keeps none
abbrev pub other_record : Way → List ℕ → List ℕ
other_record New bs = words_record (frame_of (words_after 3 bs))
other_record Old bs = record_of (frame_of (data_in (words_after 4 bs)))

-- MOVE: how many bytes were read and how many written
abbrev pub moved_by : Way → List ℕ → ℕ → Moved
moved_by w bs room = in_order (move_order w bs room) Refused (Done (size_read w (n_byte bs)) (size_written w (n_byte bs)))

-- what the lent buffer then holds: the record's bytes, and past them what it held before; on a refusal what it held before
abbrev pub moved_to : Way → List ℕ → List ℕ → List ℕ
moved_to w bs buffer = in_order (move_order w bs (length buffer)) (λ n. buffer) (other_record w bs ++ drop (size_written w (n_byte bs)) buffer)

-- in the table's terms
abbrev pub says_moved : Moved → Says (ℕ × ℕ)
says_moved (Done read written) = answers (read, written)
says_moved (Refused number) = refuses number

-- ---- A WHOLE JOURNAL, record after record

-- how far it went: the bytes read, the bytes written, and why it stopped: at the end, or at a record that is refused
pub record MovedJournal : Type 0 where
  pub read : ℕ
  pub bytes : List ℕ
  pub stop : Stop

abbrev pub stopped : Stop → MovedJournal
stopped why = record { read = 0; bytes = []; stop = why }

-- one record before the rest
abbrev pub before : ℕ → List ℕ → MovedJournal → MovedJournal
before read bytes rest = record { read = read + rest.read; bytes = bytes ++ rest.bytes; stop = rest.stop }

-- the refusal, or what was moved and then the rest
abbrev pub onwards : Moved → List ℕ → (ℕ → ℕ → MovedJournal) → MovedJournal
onwards (Done read written) bytes rest = before read bytes (rest written read)
onwards (Refused number) bytes rest = stopped (stop.At number)

-- the bytes from here on, of which `skip` belong to a record that was moved; `room` bytes may be written
unfoldable pub moved_from : Way → List ℕ → ℕ → ℕ → MovedJournal
moved_from w [] room skip = stopped stop.End
moved_from w (b ∷ bs) room (suc skip) = moved_from w bs room skip
moved_from w (b ∷ bs) room zero =
    onwards (moved_by w (b ∷ bs) room) (other_record w (b ∷ bs)) (λ written read. moved_from w bs (room - written) (read - 1))

abbrev pub moved_journal : Way → List ℕ → ℕ → MovedJournal
moved_journal w bs room = moved_from w bs room 0

-- MOVE ALL: how many bytes were read and how many written, and why it stopped there
unfoldable pub piece_by : Way → List ℕ → ℕ → Piece
piece_by w bs room =
    let run = moved_journal w bs room in
    record { read = run.read; written = length run.bytes; stop = run.stop }

-- what the lent buffer then holds: the records, and past them what it held before
unfoldable pub piece_to : Way → List ℕ → List ℕ → List ℕ
piece_to w bs buffer =
    let run = moved_journal w bs (length buffer) in
    run.bytes ++ drop (length run.bytes) buffer
