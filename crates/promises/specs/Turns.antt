-- READ ROWS IS FEEDING AND TAKING IN TURNS, of every reader. So what Demand3 says of any calls on a fresh reader is said of calls with READ ROWS among
-- them; there it is never refused with 5. And each row holds its frame. Assumes nothing.
use Rattle.std.specs.Prelude.{◌≡◌, Bool, false, ◌⊎◌, List, [], ◌∷◌, ◌++◌, ℕ, zero, suc, ◌+◌, ◌*◌, ◌/◌, ◌≤◌, ltb, length, take, drop}
use Rattle.answer.specs.Order.{answers, in_order}
use Rattle.line.specs.Line.{line_bits, without}
use Rattle.frame.specs.Frames.{bare}
use Rattle.frame.specs.declared.Frame.{Frame}
use Rattle.journal.specs.Journal.{recalled_by, says_recalled}
use Rattle.reader.specs.Reading.{started, fed_all_by, taken_by}
use Rattle.reader.specs.Rows.{row_size, row_of, taken_or, in_turns, rows_order, rows_turns, rows_by, rows_to, says_rows}
use Rattle.reader.specs.declared.Reader.{Reader}
use Rattle.promises.specs.Calls.{Call, feeds_all, takes, reply_to, after, bits_given, frame_given, after_all, bits_taken, handed_out, Outcome, outcome}
use Rattle.promises.specs.CarriesItsNumber.{Ordered}
use Rattle.promises.specs.ChangesNeither.{OnlyFirst}

-- the calls of so many turns at most: the bytes that are left are fed, then a frame is taken; behind a taking that is refused no call comes
unfoldable pub turn_calls : ℕ → Reader → List ℕ → List Call
turn_calls zero r bs = []
turn_calls (suc k) r bs =
    let fed = fed_all_by r bs in
    let taken = taken_by fed.reader in
    feeds_all bs ∷ (takes ∷ taken_or taken.answer (turn_calls k taken.reader (drop fed.used bs)) [])

-- THE TURNS ARE THESE CALLS, of every reader, forged or not
pub record TurnsAreCalls (k : ℕ) (r : Reader) (bs : List ℕ) : Type 0 where
  pub reader : after_all r (turn_calls k r bs) ≡ (in_turns k r bs).reader
  pub frames : handed_out r (turn_calls k r bs) ≡ (in_turns k r bs).frames
  pub bits : bits_taken r (turn_calls k r bs) ≡ line_bits (take (in_turns k r bs).used bs)
  pub lent : (in_turns k r bs).used ≤ length bs
  pub room : length (in_turns k r bs).frames ≤ k

-- ---- the rows

-- the frames that READ ROWS puts: none where it is refused
unfoldable pub row_frames : Reader → List ℕ → List ℕ → List (ℕ × Frame)
row_frames r bytes rows = in_order (rows_order r rows) (λ n. []) (rows_turns r bytes rows).frames

-- bytes that begin with a frame's row, which has room in its size; of the bytes from the seventh on recalling gives the frame, all but its pair, which
-- is the fifth and the sixth
pub record RowHolds (h : ℕ × Frame) (row : List ℕ) : Type 0 where
  pub rest : List ℕ
  pub is : row ≡ row_of h.0 h.1 ++ rest
  pub fits : length (row_of h.0 h.1) ≤ row_size
  pub recalled : says_recalled (recalled_by (drop 6 row)) ≡ answers (3 * h.1.n + 9, bare h.1)

-- so many rows are put, nothing past them changes, and each of them, whatever number before it, holds its frame
pub record RowsHold (r : Reader) (bytes rows : List ℕ) : Type 0 where
  pub count : (rows_by r bytes rows).count ≡ length (row_frames r bytes rows)
  pub only : OnlyFirst (row_size * (rows_by r bytes rows).count) (rows_to r bytes rows) rows
  pub each : (before behind : List (ℕ × Frame)) (h : ℕ × Frame) → row_frames r bytes rows ≡ before ++ (h ∷ behind)
      → RowHolds h (drop (row_size * length before) (rows_to r bytes rows))

-- ---- READ ROWS among other calls

-- a call, or READ ROWS of bytes into lent rows
pub data RowCall : Type 0 where
  one : Call → RowCall
  reads : (bytes rows : List ℕ) → RowCall

-- what calls came to: the reader that is left, the bits taken, and the frames handed out or put in rows
pub record Came : Type 0 where
  pub reader : Reader
  pub bits : List Bool
  pub out : List (ℕ × Frame)

unfoldable pub came : Reader → RowCall → Came
came r (one c) = record { reader = after r c; bits = bits_given c (reply_to r c); out = frame_given (reply_to r c) }
came r (reads bytes rows) = record {
  reader = (rows_by r bytes rows).reader;
  bits = line_bits (take (rows_by r bytes rows).used bytes);
  out = row_frames r bytes rows;
}

unfoldable pub came_all : Reader → List RowCall → Came
came_all r [] = record { reader = r; bits = []; out = [] }
came_all r (c ∷ cs) =
    let x = came r c in
    let rest = came_all x.reader cs in
    record { reader = rest.reader; bits = x.bits ++ rest.bits; out = x.out ++ rest.out }

-- the same calls with its turns in place of each READ ROWS, and none where it is refused
unfoldable pub spelled : Reader → RowCall → List Call
spelled r (one c) = c ∷ []
spelled r (reads bytes rows) = in_order (rows_order r rows) (λ n. []) (turn_calls (length rows / row_size) r bytes)

unfoldable pub spelled_all : Reader → List RowCall → List Call
spelled_all r [] = []
spelled_all r (c ∷ cs) = spelled r c ++ spelled_all (came r c).reader cs

abbrev pub came_to : Outcome → Came
came_to o = record { reader = o.reader; bits = o.bits; out = o.out }

-- where READ ROWS stops: every row is put, or all bytes are used and no frame waits; the bytes passed over are those used that carry no bit
pub record StopsWell (r : Reader) (bytes rows : List ℕ) (u p c : ℕ) : Type 0 where
  pub passed : p ≡ without (take u bytes)
  pub stops : (c ≡ length rows / row_size) ⊎ ((u ≡ length bytes) × ((rows_by r bytes rows).reader.candidate.waits ≡ false))

-- ON A FRESH READER: the calls come to what those spelled out come to, of which Demand3 speaks; and READ ROWS next is refused with 3 exactly when the
-- input has ended, then with 13 exactly when there is no room for a row, and with nothing else
pub record RowsAmongCalls (cs : List RowCall) : Type 0 where
  pub same : came_all started cs ≡ came_to (outcome (spelled_all started cs))
  pub order : (bytes rows : List ℕ)
      → let r = (came_all started cs).reader in
      Ordered (3 ∷ 13 ∷ []) ((r.ended, 3) ∷ (ltb (length rows) row_size, 13) ∷ []) (says_rows (rows_by r bytes rows))
  pub stops : (bytes rows : List ℕ) (u p c : ℕ)
      → let r = (came_all started cs).reader in says_rows (rows_by r bytes rows) ≡ answers (u, (p, c)) → StopsWell r bytes rows u p c

pub record ReadRows : Type 0 where
  pub turns : (k : ℕ) (r : Reader) (bs : List ℕ) → TurnsAreCalls k r bs
  pub rows : (r : Reader) (bytes rows : List ℕ) → RowsHold r bytes rows
  pub among : (cs : List RowCall) → RowsAmongCalls cs
