-- What is put is read back: a report whose rows have their types, put into bytes, is held by them and is the report that they say.
-- Assumes nothing.
use mathlib.Core.Path.{◌≡◌, refl, sym, ap, ap₂, ◌∙◌}
use mathlib.Core.Bool.{true, ◌&&◌}
use mathlib.Core.List.{List, [], ◌∷◌, ◌++◌, append_assoc}
use Prim.Native.Nat.{ℕ, ◌+◌, ◌-◌, ◌*◌, ◌≤◌}
use native.Mathlib.Omega.{arith}
use lib.ListN.{length, drop, replicate, length-append, length-drop, length-replicate}
use lib.Seq.{take_at, drop_at}
use borrow.Author.Tests.{le-ltb}
use Rattle.record_fields.specs.Coding.{Each}
use Rattle.rtcm2_state.specs.Numbers.{low_bytes, number_in}
use Rattle.rtcm2_state.proofs.NumberLaws.{length-bytes, number-bytes}
use Rattle.rtcm2_rows.specs.Rows.{entries_from, row_bytes}
use Rattle.season_reports.specs.Rows.{blank_row}
use Rattle.season_reports.specs.Reports.{report_with}
use Rattle.season_reports.specs.declared.Row.{Row}
use Rattle.rtcm2_season.specs.Rows.{RowFits, report_row}
use Rattle.rtcm2_season.specs.Reports.{report_size, used_in, all_name, holds_report, report_of, report_in, report_bytes, report_put}
use Rattle.rtcm2_season.proofs.RowLaws.{length-row, bytes_back, named_back}
use Rattle.rtcm2_season.proofs.ReportLaws.{length-rows, held_rows, read_held}

-- ---- rows, whatever follows their bytes

-- the first row's bytes, and the others
first : (r : Row) (rows : List Row) (rest : List ℕ) → row_bytes report_row (r ∷ rows) ++ rest ≡ report_row.codes r ++ (row_bytes report_row rows ++ rest)
unfolding row_bytes
first r rows rest = append_assoc (report_row.codes r) (row_bytes report_row rows) rest

after_first : (r : Row) (rest : List ℕ) → drop 29 (report_row.codes r ++ rest) ≡ rest
after_first r rest = drop_at (report_row.codes r) rest 29 (length-row r)

all_back : (rows : List Row) (rest : List ℕ) → Each RowFits rows → entries_from report_row (length rows) (row_bytes report_row rows ++ rest) ≡ rows
unfolding entries_from
all_back [] rest t = refl
all_back (r ∷ rows) rest t =
    ap (entries_from report_row (length (r ∷ rows))) (first r rows rest)
    ∙ ap₂ ◌∷◌ (bytes_back r t.0 (row_bytes report_row rows ++ rest))
    (ap (entries_from report_row (length rows)) (after_first r (row_bytes report_row rows ++ rest)) ∙ all_back rows rest t.1)

all_named : (rows : List Row) (rest : List ℕ) → Each RowFits rows → all_name (length rows) (row_bytes report_row rows ++ rest) ≡ true
unfolding all_name
all_named [] rest t = refl
all_named (r ∷ rows) rest t =
    ap (all_name (length (r ∷ rows))) (first r rows rest)
    ∙ ap₂ ◌&&◌ (named_back r t.0 (row_bytes report_row rows ++ rest))
    (ap (all_name (length rows)) (after_first r (row_bytes report_row rows ++ rest)) ∙ all_named rows rest t.1)

rows_both : (xs ys : List Row) → row_bytes report_row (xs ++ ys) ≡ row_bytes report_row xs ++ row_bytes report_row ys
unfolding row_bytes
rows_both [] ys = refl
rows_both (x ∷ xs) ys =
    ap (λ l. report_row.codes x ++ l) (rows_both xs ys) ∙ sym (append_assoc (report_row.codes x) (row_bytes report_row xs) (row_bytes report_row ys))

-- ---- a report

module _ (rows : List Row) (bs : List ℕ) (few : length rows ≤ 512) (room : report_size ≤ length bs) where
  abbrev put : List ℕ
  put = report_put (report_with rows) bs

  -- what follows the rows in use
  abbrev behind : List ℕ
  behind = row_bytes report_row (replicate (512 - length rows) blank_row) ++ drop report_size bs

  length-behind : length behind ≡ (512 - length rows) * 29 + (length bs - report_size)
  length-behind =
      length-append (row_bytes report_row (replicate (512 - length rows) blank_row)) (drop report_size bs)
      ∙ ap₂ ◌+◌ (length-rows (replicate (512 - length rows) blank_row) ∙ ap (λ n. n * 29) (length-replicate (512 - length rows) blank_row))
      (length-drop report_size bs)

  put_is : put ≡ low_bytes 4 (length rows) ++ (row_bytes report_row rows ++ behind)
  unfolding report_put report_bytes report_with
  put_is =
      rw (le-ltb 512 (length rows) few, le-ltb (length bs) report_size room)
      (append_assoc (low_bytes 4 (length rows)) (row_bytes report_row (rows ++ replicate (512 - length rows) blank_row)) (drop report_size bs)
      ∙ ap (λ l. low_bytes 4 (length rows) ++ l)
      (ap (λ l. l ++ drop report_size bs) (rows_both rows (replicate (512 - length rows) blank_row))
      ∙ append_assoc (row_bytes report_row rows) (row_bytes report_row (replicate (512 - length rows) blank_row)) (drop report_size bs)))

  put_whole : put ≡ report_bytes (report_with rows) ++ drop report_size bs
  unfolding report_put report_with
  put_whole = rw (le-ltb 512 (length rows) few, le-ltb (length bs) report_size room)

  length_whole : length (report_bytes (report_with rows)) ≡ report_size
  unfolding report_bytes report_with
  length_whole =
      omega (
        arith,
        length-append (low_bytes 4 (length rows)) (row_bytes report_row (rows ++ replicate (512 - length rows) blank_row)),
        length-bytes 4 (length rows),
        length-rows (rows ++ replicate (512 - length rows) blank_row),
        length-append rows (replicate (512 - length rows) blank_row),
        length-replicate (512 - length rows) blank_row,
      )

  past-put : drop report_size put ≡ drop report_size bs
  past-put = ap (drop report_size) put_whole ∙ drop_at (report_bytes (report_with rows)) (drop report_size bs) report_size length_whole

  used-back : used_in put ≡ length rows
  unfolding used_in
  used-back =
      ap used_in put_is ∙ ap number_in (take_at (low_bytes 4 (length rows)) (row_bytes report_row rows ++ behind) 4 (length-bytes 4 (length rows)))
      ∙ number-bytes 4 (length rows) (omega arith)

  past-used : drop 4 put ≡ row_bytes report_row rows ++ behind
  past-used = ap (drop 4) put_is ∙ drop_at (low_bytes 4 (length rows)) (row_bytes report_row rows ++ behind) 4 (length-bytes 4 (length rows))

  pub put-long : report_size ≤ length put
  put-long =
      omega (
        arith,
        ap length put_is,
        length-append (low_bytes 4 (length rows)) (row_bytes report_row rows ++ behind),
        length-bytes 4 (length rows),
        length-append (row_bytes report_row rows) behind,
        length-rows rows,
        length-behind,
      )

  module _ (t : Each RowFits rows) where
    pub put-held : holds_report put ≡ true
    put-held =
        held_rows put put-long (omega (arith, used-back))
        ∙ ap₂ all_name used-back past-used ∙ all_named rows behind t

    -- PUT, THEN READ
    pub put-read : report_in put ≡ report_with rows
    unfolding report_of
    put-read =
        read_held put put-held
        ∙ ap report_with (ap₂ (entries_from report_row) used-back past-used ∙ all_back rows behind t)

-- PUT OVER ANOTHER: nothing of the first is left
pub put-again : (rows more : List Row) (bs : List ℕ) → length rows ≤ 512 → length more ≤ 512 → report_size ≤ length bs
    → report_put (report_with more) (report_put (report_with rows) bs) ≡ report_put (report_with more) bs
put-again rows more bs few less room =
    put_whole more (report_put (report_with rows) bs) less (put-long rows bs few room)
    ∙ ap (λ l. report_bytes (report_with more) ++ l) (past-put rows bs few room)
    ∙ sym (put_whole more bs less room)
