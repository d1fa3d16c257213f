-- Rows that a frame gives back, over the row: how many, and each row put again is its own bytes. Assumes nothing.
use mathlib.Core.Path.{◌≡◌, ap, ◌∙◌}
use mathlib.Core.List.{List, [], ◌++◌}
use Prim.Native.Nat.{ℕ, ◌+◌, ◌*◌, ◌≤◌, ◌<◌}
use native.Mathlib.Nat.{suc-mul, mul-le-mul_right}
use native.Mathlib.Omega.{arith}
use lib.ListN.{length, take, drop, get_or, length-drop}
use borrow.Author.Tests.{le-ltb}
use Rattle.answer.specs.Order.{Says, answers}
use Rattle.bits.specs.Fields.{AreBytes}
use Rattle.bits.proofs.FieldLaws.{fit-drop}
use Rattle.record_fields.specs.Coding.{Coding}
use Rattle.rtcm2_rows.specs.Rows.{row_size, count_of, entry_of, entries_from, row_after}
use Rattle.rtcm2_rows.proofs.RowLaws.{count_held, entry_at}
use Rattle.rtcm2.specs.Rows.{row_to, row_held}
use Rattle.rtcm2_promises.specs.ReadsBack.{RowsBack}

-- as many rows as are counted are there
room : (size i l : ℕ) → i < count_of size l → i * size + size ≤ l
room size i l h = omega (arith, suc-mul i size, count_held size l, mul-le-mul_right size h)

-- `again`: a row that is read and put again is its own bytes
module _ {A : Type 0} (row : Coding A)
    (again : (bs : List ℕ) → AreBytes bs → row_size row ≤ length bs → row.codes (entry_of row bs) ≡ take (row_size row) bs)
    (most : ℕ) (rows : List ℕ) (b : AreBytes rows) where
  abbrev es : List A
  es = entries_from row most rows

  abbrev c : ℕ
  c = count_of (row_size row) (length rows)

  abbrev none : A
  none = entry_of row []

  put : (i : ℕ) (lent : List ℕ) → i < c → row_size row ≤ length lent
      → row_after row (entry_of row (drop (i * row_size row) rows)) lent ≡ take (row_size row) (drop (i * row_size row) rows) ++ drop (row_size row) lent
  put i lent l long = rw (le-ltb (length lent) (row_size row) long)
      (ap (λ v. v ++ drop (row_size row) lent) (again (drop (i * row_size row) rows) (fit-drop (i * row_size row) rows b)
      (omega (arith, room (row_size row) i (length rows) l, length-drop (i * row_size row) rows))))

  pub rows_back : (counted : Says ℕ) (entry : ℕ → Says A) → c ≤ most → counted ≡ answers c → ((i : ℕ) → i < c → entry i ≡ answers (get_or es i none))
      → RowsBack row rows counted entry
  rows_back counted entry few many each = record {
    counts = many;
    answered = λ i lent l long. ap (λ s. row_to row s lent) (each i l) ∙ rw (le-ltb (length lent) (row_size row) long);
    each = λ i lent l long.
        ap (λ s. row_held row s lent) (each i l ∙ ap answers (entry_at row most rows i none (omega (arith, few)))) ∙ put i lent l long;
  }
