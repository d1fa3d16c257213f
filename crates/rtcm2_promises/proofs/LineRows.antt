-- rtcm2_read is READ ROWS of the reader whose state the bytes hold, among any calls after rtcm2_start. Assumes nothing.
use mathlib.Core.Path.{◌≡◌, refl, sym, ap, subst, ◌∙◌}
use mathlib.Core.List.{List, [], ◌∷◌, map}
use Prim.Native.Nat.{ℕ, ◌≤◌}
use lib.ListN.{length}
use Rattle.reader.specs.Reading.{started}
use Rattle.reader.specs.Rows.{rows_by, rows_to, says_rows}
use Rattle.reader.specs.declared.Reader.{Reader}
use Rattle.reader.specs.declared.rows.RowsRead.{RowsRead}
use Rattle.record_fields.specs.Coding.{Each}
use Rattle.rtcm2_state.specs.State.{state_size, state_in, state_put}
use Rattle.rtcm2_state.proofs.RoundTrip.{put-read}
use Rattle.rtcm2_state.proofs.Storable.{storable-fit}
use Rattle.rtcm2.specs.Answer.{number_of, left}
use Rattle.rtcm2.specs.Line.{done_by, rows_in}
use Rattle.rtcm2.proofs.LineStorable.{call-storable, left-storable}
use Rattle.promises.specs.Calls.{Call, after, after_all}
use Rattle.promises.specs.Turns.{RowCall, reads, Came, came, came_all, spelled}
use Rattle.promises.proofs.CarriesItsNumber.{carries-its-number}
use Rattle.promises.proofs.ChangesNeither.{changes-neither}
use Rattle.promises.proofs.Turns.{spelled-one}
use Rattle.rtcm2_promises.specs.LineCalls.{says_number}
use Rattle.rtcm2_promises.specs.LineRows.{ReadCall, line, read, ReadRoom, asks_rows, read_after, read_after_all, reader_after, RepliesAlike, LibraryRows}
use Rattle.rtcm2_promises.proofs.Told.{number-told, left-told}
use Rattle.rtcm2_promises.proofs.Called.{Called, called-started, called-call}
use Rattle.rtcm2_promises.proofs.OneCall.{same-call}
use Rattle.rtcm2_promises.proofs.LineCalls.{begun-is}

-- ---- a reader that was started and called stays one

called-all : (cs : List Call) (r : Reader) → Called r → Called (after_all r cs)
unfolding after_all
called-all [] r k = k
called-all (c ∷ cs) r k = called-all cs (after r c) (called-call r k c)

called-row : (r : Reader) → Called r → (c : RowCall) → Called (came r c).reader
called-row r k c = subst Called (sym (ap (λ (x : Came). x.reader) (spelled-one r c))) (called-all (spelled r c) r k)

-- ---- one call

module _ (state : List ℕ) (h : state_size ≤ length state) (r : Reader) (k : Called r) where
  abbrev held : List ℕ
  held = state_put r state

  module _ (bytes rows : List ℕ) where
    x : RowsRead
    x = rows_by r bytes rows

    is : rows_in held bytes rows ≡ done_by (rows_by r bytes rows).answer (rows_by r bytes rows)
    unfolding rows_in
    is = call-storable r k.storable state h (λ (y : RowsRead). y.answer) (λ q. rows_by q bytes rows)

    left_is : left (rows_in held bytes rows) (λ y. state_put y.reader held) held ≡ state_put (rows_by r bytes rows).reader state
    unfolding x
    left_is =
        left-told x.answer x is (λ (y : RowsRead). state_put y.reader held) held (state_put x.reader state)
        (left-storable r k.storable state h x.reader (unfold came in (called-row r k (reads bytes rows)).storable))
        (λ n e. ap (λ q. state_put q state) (changes-neither.read-rows r bytes rows n e))

    said : (u p n : ℕ) → let s = rows_in held bytes rows in
        says_number (number_of s) (left s (λ y. y.used) u, (left s (λ y. y.passed) p, left s (λ y. y.count) n)) ≡ says_rows (rows_by r bytes rows)
    unfolding x
    said u p n =
        number-told x.answer x is (carries-its-number.read-rows r bytes rows)
        (λ s. (left s (λ y. y.used) u, (left s (λ y. y.passed) p, left s (λ y. y.count) n)))

    rows_are : left (rows_in held bytes rows) (λ y. rows_to (state_in held) bytes rows) rows ≡ rows_to r bytes rows
    unfolding x
    rows_are =
        left-told x.answer x is (λ (y : RowsRead). rows_to (state_in held) bytes rows) rows (rows_to r bytes rows)
        (ap (λ q. rows_to q bytes rows) (put-read r state h (storable-fit r k.storable))) (changes-neither.read-rows-output r bytes rows)

  after_is : (c : ReadCall) → ReadRoom c → read_after held c ≡ state_put (came r (asks_rows c)).reader state
  unfolding read_after came
  after_is (line c) room = (same-call r k state h c room).leaves
  after_is (read bytes rows) room = left_is bytes rows

  alike : RepliesAlike held r
  alike = record { says = said; rows = rows_are; reply = λ c room. (same-call r k state h c room).reply }

-- ---- call after call

module _ (state : List ℕ) (h : state_size ≤ length state) where
  record Reads (r : Reader) (cs : List ReadCall) : Type 0 where
    bytes : read_after_all (state_put r state) cs ≡ state_put (came_all r (map asks_rows cs)).reader state
    called : Called (came_all r (map asks_rows cs)).reader

  all_read : (cs : List ReadCall) (r : Reader) → Called r → Each ReadRoom cs → Reads r cs
  unfolding read_after_all came_all
  all_read [] r k room = record { bytes = refl; called = k }
  all_read (c ∷ cs) r k room = later (all_read cs (came r (asks_rows c)).reader (called-row r k (asks_rows c)) room.1)
    where
      later : Reads (came r (asks_rows c)).reader cs → Reads r (c ∷ cs)
      later v = record { bytes = ap (λ b. read_after_all b cs) (after_is state h r k c room.0) ∙ v.bytes; called = v.called }

  pub library-rows : LibraryRows state
  library-rows cs room =
      let v = all_read cs started called-started room in
      let e = ap (λ b. read_after_all b cs) (begun-is state h) ∙ v.bytes in
      record { bytes = e; alike = subst (λ b. RepliesAlike b (reader_after cs)) (sym e) (alike state h (reader_after cs) v.called) }
