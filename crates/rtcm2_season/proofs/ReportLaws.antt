-- A report and its bytes: what the functions' proofs cite. Assumes nothing.
use mathlib.Core.Path.{◌≡◌, refl, sym, ap, ap₂, ◌∙◌}
use mathlib.Core.Bool.{Bool, true, false, true≢false, not, ◌&&◌}
use mathlib.Core.List.{List, [], ◌∷◌, ◌++◌}
use Prim.Native.Nat.{ℕ, suc, ◌+◌, ◌-◌, ◌*◌, ◌≤◌, ◌<◌}
use native.Mathlib.Nat.{sub-zero}
use native.Mathlib.Omega.{arith}
use lib.Dec.{ltb}
use lib.IntN.{pos}
use lib.ListN.{length, take, drop, get_or, set, replicate, length-append, length-replicate, take-append-drop}
use lib.Seq.{drop-drop, drop-cons, drop-set-lt, sets, sets-eq}
use borrow.Author.Tests.{lt-ltb, le-ltb, ltb-false}
use Rattle.frame.specs.declared.System.TheVariants.{Gps}
use Rattle.rtcm2_state.specs.Numbers.{low_bytes}
use Rattle.rtcm2_state.proofs.NumberLaws.{length-bytes}
use Rattle.rtcm2_rows.specs.Rows.{entry_of, entries_from, row_bytes}
use Rattle.rtcm2_rows.specs.declared.row.Put.TheVariants.{Done, Refused}
use Rattle.rtcm2_rows.proofs.RowLaws.{length-entries}
use Rattle.season_reports.specs.Rows.{blank_row}
use Rattle.season_reports.specs.Reports.{report_with}
use Rattle.season_reports.specs.declared.Row.{Row}
use Rattle.season_reports.specs.declared.Report.{Report}
use Rattle.season_reports.specs.declared.Extremes.TheVariants.{Absent}
use Rattle.rtcm2_rows.specs.Sizes.{sized_in}
use Rattle.rtcm2_season.specs.Rows.{sizes, names_row, row_with, report_row}
use Rattle.rtcm2_season.specs.Reports.{report_size, used_in, all_name, holds_report, report_of, report_in, report_bytes, report_put_by, report_put}
use Rattle.rtcm2_rows.proofs.SizeLaws.{sets-both}
use Rattle.rtcm2_season.proofs.RowLaws.{length-row, row_read_lem}

-- what an array's element past its end counts as
abbrev pub unread_row : Row
unread_row = record { key = record { system = Gps; station = 0; satellite = 0 }; usable = 0; stops = 0; extremes = Absent; sum = pos 0 }

-- ---- whether all rows name one

module _ (bs : List ℕ) (used : ℕ) where
  pub name-start : all_name used (drop 4 bs) ≡ all_name (used - 0) (drop (4 + 0 * 29) bs)
  name-start = ap (λ k. all_name k (drop 4 bs)) (sym (sub-zero used))

  pub name-next : (i : ℕ) → i < used → all_name (used - i) (drop (4 + i * 29) bs)
      ≡ names_row (sized_in sizes (drop (4 + i * 29) bs)) && all_name (used - (i + 1)) (drop (4 + (i + 1) * 29) bs)
  unfolding all_name
  name-next i h =
      ap (λ k. all_name k (drop (4 + i * 29) bs)) more
      ∙ ap (λ l. names_row (sized_in sizes (drop (4 + i * 29) bs)) && all_name (used - (i + 1)) l) (drop-drop 29 (4 + i * 29) bs ∙ ap (λ j. drop j bs) on)
    where
      more : used - i ≡ suc (used - (i + 1))
      more = omega arith

      on : 4 + i * 29 + 29 ≡ 4 + (i + 1) * 29
      on = omega arith

  pub name-all : (i : ℕ) (l : List ℕ) → used ≤ i → all_name (used - i) l ≡ true
  unfolding all_name
  name-all i l h = ap (λ k. all_name k l) none
    where
      none : used - i ≡ 0
      none = omega arith

-- ---- whether a report is held

module _ (bs : List ℕ) where
  pub held-short : length bs < report_size → holds_report bs ≡ false
  unfolding holds_report
  held-short h = rw (lt-ltb (length bs) report_size h)

  pub held-over : report_size ≤ length bs → 512 < used_in bs → holds_report bs ≡ false
  unfolding holds_report
  held-over h g = rw (le-ltb (length bs) report_size h, lt-ltb 512 (used_in bs) g)

  pub held_rows : report_size ≤ length bs → used_in bs ≤ 512 → holds_report bs ≡ all_name (used_in bs) (drop 4 bs)
  unfolding holds_report
  held_rows h g = rw (le-ltb (length bs) report_size h, le-ltb 512 (used_in bs) g)

  pub held-long : holds_report bs ≡ true → report_size ≤ length bs
  unfolding holds_report
  held-long = go (ltb (length bs) report_size) refl
    where
      go : (t : Bool) → ltb (length bs) report_size ≡ t → (not t && not (ltb 512 (used_in bs)) && all_name (used_in bs) (drop 4 bs)) ≡ true
          → report_size ≤ length bs
      go true e q = absurd (true≢false (sym q))
      go false e q = ltb-false (length bs) report_size e

  pub held-few : holds_report bs ≡ true → used_in bs ≤ 512
  unfolding holds_report
  held-few h = go (ltb (length bs) report_size) (ltb 512 (used_in bs)) refl h
    where
      go : (s t : Bool) → ltb 512 (used_in bs) ≡ t → (not s && not t && all_name (used_in bs) (drop 4 bs)) ≡ true → used_in bs ≤ 512
      go s false e q = ltb-false 512 (used_in bs) e
      go true true e q = absurd (true≢false (sym q))
      go false true e q = absurd (true≢false (sym q))

-- ---- reading

pub empty-full : length (report_with []).rows ≡ 512
unfolding report_with
empty-full = length-replicate 512 blank_row

-- the row number i
pub row-at : (bs : List ℕ) (i : ℕ) → row_with (sized_in sizes (drop (4 + i * 29) bs)) ≡ entry_of report_row (drop (i * 29) (drop 4 bs))
row-at bs i = row_read_lem (drop (4 + i * 29) bs) ∙ ap (entry_of report_row) (sym (drop-drop (i * 29) 4 bs))

-- blank rows past it
pub blank-next : (rows : List Row) (i : ℕ) (r b : Row) → i < 512 → drop i rows ≡ replicate (512 - i) b
    → drop (i + 1) (set rows i r) ≡ replicate (512 - (i + 1)) b
blank-next rows i r b h q =
    drop-set-lt (i + 1) rows i r (omega arith) ∙ sym (drop-drop 1 i rows) ∙ ap (drop 1) (q ∙ ap (λ k. replicate k b) more)
  where
    more : 512 - i ≡ suc (512 - (i + 1))
    more = omega arith

pub rows_all : (bs : List ℕ) (rows : List Row) (i used : ℕ) → i ≡ used → take i rows ≡ entries_from report_row i (drop 4 bs)
    → drop i rows ≡ replicate (512 - i) blank_row → rows ≡ entries_from report_row used (drop 4 bs) ++ replicate (512 - used) blank_row
rows_all bs rows i used e q r =
    sym (take-append-drop i rows) ∙ ap₂ ◌++◌ q r ∙ ap (λ j. entries_from report_row j (drop 4 bs) ++ replicate (512 - j) blank_row) e

module _ (bs : List ℕ) where
  pub read_none : holds_report bs ≡ false → report_in bs ≡ report_with []
  unfolding report_in
  read_none h = rw h

  pub read_held : holds_report bs ≡ true → report_in bs ≡ report_of bs
  unfolding report_in
  read_held h = rw h

  pub read_is : {used : ℕ} {rows : List Row} → holds_report bs ≡ true → used ≡ used_in bs
      → rows ≡ entries_from report_row used (drop 4 bs) ++ replicate (512 - used) blank_row → record { used = used; rows = rows } ≡ report_in bs
  unfolding report_of report_with
  read_is {used} {rows} h eu er =
      ap₂ (λ u rs. record { used = u; rows = rs }) (eu ∙ sym count)
      (er ∙ ap (λ k. entries_from report_row k (drop 4 bs) ++ replicate (512 - k) blank_row) eu
      ∙ ap (λ k. entries_from report_row (used_in bs) (drop 4 bs) ++ replicate (512 - k) blank_row) (sym count))
      ∙ sym (read_held h)
    where
      count : length (entries_from report_row (used_in bs) (drop 4 bs)) ≡ used_in bs
      count = length-entries report_row (used_in bs) (drop 4 bs)

-- ---- putting

pub length-rows : (rows : List Row) → length (row_bytes report_row rows) ≡ length rows * 29
unfolding row_bytes
length-rows [] = refl
length-rows (r ∷ rows) = omega (arith, length-append (report_row.codes r) (row_bytes report_row rows), length-row r, length-rows rows)

-- row i of those that are left
pub put-row-next : (rows : List Row) (l : List ℕ) {after : List ℕ} (i : ℕ) → i < length rows
    → after ≡ sets l (4 + i * 29) (report_row.codes (get_or rows i unread_row))
    → sets l (4 + i * 29) (row_bytes report_row (drop i rows)) ≡ sets after (4 + (i + 1) * 29) (row_bytes report_row (drop (i + 1) rows))
unfolding row_bytes
put-row-next rows l i h q =
    ap (λ rs. sets l (4 + i * 29) (row_bytes report_row rs)) (drop-cons rows i unread_row h ∙ ap (λ j. get_or rows i unread_row ∷ drop j rows) one)
    ∙ sets-both (report_row.codes (get_or rows i unread_row)) (row_bytes report_row (drop (i + 1) rows)) l (4 + i * 29)
    ∙ ap₂ (λ m j. sets m j (row_bytes report_row (drop (i + 1) rows))) (sym q) place
  where
    one : suc i ≡ i + 1
    one = omega arith

    place : 4 + i * 29 + length (report_row.codes (get_or rows i unread_row)) ≡ 4 + (i + 1) * 29
    place = omega (arith, length-row (get_or rows i unread_row))

module _ (r : Report) (bs : List ℕ) where
  pub put-over : 512 < r.used → (Refused 5 ≡ report_put_by r bs) × (bs ≡ report_put r bs)
  unfolding report_put
  put-over h = let s = lt-ltb 512 r.used h in (rw s, rw s)

  pub put-short : r.used ≤ 512 → length bs < report_size → (Refused 13 ≡ report_put_by r bs) × (bs ≡ report_put r bs)
  unfolding report_put
  put-short h g = let s = le-ltb 512 r.used h in let t = lt-ltb (length bs) report_size g in (rw (s, t), rw (s, t))

  pub put_whole : r.used ≤ 512 → report_size ≤ length bs → length r.rows ≡ 512 → {used bytes : List ℕ} → used ≡ sets bs 0 (low_bytes 4 r.used)
      → bytes ≡ sets used 4 (row_bytes report_row r.rows) → (Done ≡ report_put_by r bs) × (bytes ≡ report_put r bs)
  unfolding report_put report_bytes
  put_whole h g f {used} {bytes} eu eb =
      let s = le-ltb 512 r.used h in
      let t = le-ltb (length bs) report_size g in
      (rw (s, t), rw (s, t) all)
    where
      size : length (report_bytes r) ≡ report_size
      size = omega (arith, length-append (low_bytes 4 r.used) (row_bytes report_row r.rows), length-bytes 4 r.used, length-rows r.rows, f)

      room : 0 + length (report_bytes r) ≤ length bs
      room = omega (arith, size)

      past : 0 + length (report_bytes r) ≡ report_size
      past = omega (arith, size)

      start : 0 + length (low_bytes 4 r.used) ≡ 4
      start = omega (arith, length-bytes 4 r.used)

      all : bytes ≡ report_bytes r ++ drop report_size bs
      all =
          eb ∙ ap (λ l. sets l 4 (row_bytes report_row r.rows)) eu
          ∙ ap (λ k. sets (sets bs 0 (low_bytes 4 r.used)) k (row_bytes report_row r.rows)) (sym start)
          ∙ sym (sets-both (low_bytes 4 r.used) (row_bytes report_row r.rows) bs 0)
          ∙ sets-eq (report_bytes r) bs 0 room
          ∙ ap (λ k. report_bytes r ++ drop k bs) past
