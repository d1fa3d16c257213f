-- One row more in a table: what comes of its rows, in three cases. Assumes nothing.
use mathlib.Core.Path.{◌≡◌, refl, sym, ap, ap₂, subst, ◌∙◌}
use mathlib.Core.Bool.{Bool, true, false, cond, ◌||◌}
use mathlib.Core.List.{List, [], ◌∷◌, ◌++◌, append_assoc}
use Prim.Native.Nat.{ℕ, suc, ◌+◌, ◌-◌, ◌^◌, ◌≤◌, ◌<◌, max}
use native.Mathlib.Omega.{arith}
use lib.Dec.{leb, ltb}
use lib.ListN.{length, get_or, set, replicate, length-append, length-set, get_or-append}
use lib.Seq.{take-append_seam, set-append_left, set_at, get_or_at}
use borrow.Author.Tests.{lt-leb, leb-true, leb-false, ltb-true, ltb-false}
use Rattle.record_fields.specs.Coding.{Each}
use Rattle.season_reports.specs.Rows.{same_key, blank_row, together}
use Rattle.season_reports.specs.Gathering.{keys_of, any_twice, key_twice}
use Rattle.season_reports.specs.Reports.{most_rows, rows_in, report_with}
use Rattle.season_reports.specs.Tables.{first_index, over_both, merged, put_row, place_of_key, with_row, TypedRow, SoundRow, SoundTable}
use Rattle.season_reports.specs.declared.Row.{Row}
use Rattle.season_reports.specs.declared.Report.{Report}
use Rattle.season_reports.specs.declared.table.Table.{Table}
use Rattle.season_reports.proofs.RowLaws.{together-blank}
use Rattle.season_reports.proofs.SeenLaws.{among}
use Rattle.season_reports.proofs.PlaceLaws.{first-most, first-hit, first-in, first_out, any-key}

-- ---- a table of rows

abbrev pub table_of : List Row → Bool → Bool → Table
table_of rows o f = record { report = report_with rows; over = o; full = f }

pub rows_back : (rows : List Row) → rows_in (report_with rows) ≡ rows
unfolding report_with
rows_back rows = take-append_seam rows (replicate (most_rows - length rows) blank_row)

pub record SoundRows (rows : List Row) : Type 0 where
  pub few : length rows ≤ most_rows
  pub each : Each SoundRow rows
  pub apart : key_twice (keys_of rows) ≡ false

pub table_is : (t : Table) → SoundTable t → t ≡ table_of (rows_in t.report) t.over t.full
table_is t s = ap (λ r. record { report = r; over = t.over; full = t.full }) s.whole

pub table-rows : (t : Table) → SoundTable t → SoundRows (rows_in t.report)
unfolding report_with
table-rows t s = record { few = omega (arith, s.few, ap (λ r. r.used) s.whole); each = s.rows; apart = s.apart }

pub table-sound : (rows : List Row) (o f : Bool) → SoundRows rows → SoundTable (table_of rows o f)
unfolding report_with
table-sound rows o f s = record {
  few = s.few;
  rows = subst (Each SoundRow) (sym (rows_back rows)) s.each;
  apart = ap (λ l. key_twice (keys_of l)) (rows_back rows) ∙ s.apart;
  whole = ap report_with (sym (rows_back rows));
}

no-twice : key_twice [] ≡ false
unfolding any_twice
no-twice = refl

pub none_rows : SoundRows []
none_rows = record { few = omega arith; each = tt; apart = no-twice }

-- ---- where a row goes

max-old : (n i : ℕ) → i < n → max n (suc i) ≡ n
max-old n i h = omega arith

max-new : (n : ℕ) → max n (suc n) ≡ suc n
max-new n = omega arith

report_is : ℕ → List Row → Report
report_is n rows = record { used = n; rows = rows }

pub put-old : (rows : List Row) (o f : Bool) (i : ℕ) (r : Row) → i < length rows
    → put_row (table_of rows o f) i r ≡ table_of (set rows i (merged (get_or rows i blank_row) r)) (o || over_both (get_or rows i blank_row) r) f
unfolding report_with report_is
put-old rows o f i r h =
    ap₂ (λ n l. record { report = report_is n l; over = o || over_both (get_or all i blank_row) r; full = f }) counts lists
    ∙ ap (λ x. record { report = report_with put; over = o || over_both x r; full = f }) there
  where
    all : List Row
    all = rows ++ replicate (most_rows - length rows) blank_row

    put : List Row
    put = set rows i (merged (get_or rows i blank_row) r)

    there : get_or all i blank_row ≡ get_or rows i blank_row
    there = get_or-append rows _ blank_row i h

    counts : max (length rows) (suc i) ≡ length put
    counts = max-old (length rows) i h ∙ sym (length-set rows i _)

    lists : set all i (merged (get_or all i blank_row) r) ≡ put ++ replicate (most_rows - length put) blank_row
    lists =
        ap (λ x. set all i (merged x r)) there ∙ set-append_left rows _ i _ h
        ∙ ap (λ n. put ++ replicate (most_rows - n) blank_row) (sym (length-set rows i _))

blank-over : (r : Row) → TypedRow r → over_both blank_row r ≡ false
blank-over r t = rw (lt-leb (2 ^ 32) (0 + r.usable) (omega (arith, t.usable)), lt-leb (2 ^ 32) (0 + r.stops) (omega (arith, t.stops)))

blank-merged : (r : Row) → TypedRow r → merged blank_row r ≡ r
blank-merged r t = ap (λ b. cond b blank_row (together blank_row r)) (blank-over r t) ∙ together-blank r

or-none : (b : Bool) → b || false ≡ b
or-none true = refl
or-none false = refl

pub put-new : (rows : List Row) (o f : Bool) (r : Row) → length rows < most_rows → TypedRow r
    → put_row (table_of rows o f) (length rows) r ≡ table_of (rows ++ (r ∷ [])) o f
unfolding report_with report_is
put-new rows o f r h t =
    ap₂ (λ n l. record { report = report_is n l; over = o || over_both (get_or all (length rows) blank_row) r; full = f }) counts lists
    ∙ ap (λ b. record { report = report_with (rows ++ (r ∷ [])); over = b; full = f })
    (ap (λ x. o || over_both x r) there ∙ ap (λ b. o || b) (blank-over r t) ∙ or-none o)
  where
    all : List Row
    all = rows ++ replicate (most_rows - length rows) blank_row

    left : most_rows - length rows ≡ suc (most_rows - suc (length rows))
    left = omega arith

    open-all : all ≡ rows ++ blank_row ∷ replicate (most_rows - suc (length rows)) blank_row
    open-all = ap (λ n. rows ++ replicate n blank_row) left

    there : get_or all (length rows) blank_row ≡ blank_row
    there = ap (λ l. get_or l (length rows) blank_row) open-all ∙ get_or_at rows blank_row _ blank_row (length rows) refl

    longer : suc (length rows) ≡ length (rows ++ (r ∷ []))
    longer = sym (length-append rows (r ∷ []) ∙ one)
      where
        one : length rows + 1 ≡ suc (length rows)
        one = omega arith

    counts : max (length rows) (suc (length rows)) ≡ length (rows ++ (r ∷ []))
    counts = max-new (length rows) ∙ longer

    lists : set all (length rows) (merged (get_or all (length rows) blank_row) r) ≡ (rows ++ (r ∷ [])) ++ replicate (most_rows - length (rows ++ (r ∷ []))) blank_row
    lists =
        ap (λ x. set all (length rows) (merged x r)) there ∙ ap (set all (length rows)) (blank-merged r t)
        ∙ ap (λ l. set l (length rows) r) open-all ∙ set_at rows blank_row _ r (length rows) refl
        ∙ sym (append_assoc rows (r ∷ []) (replicate (most_rows - suc (length rows)) blank_row))
        ∙ ap (λ n. (rows ++ (r ∷ [])) ++ replicate (most_rows - n) blank_row) longer

-- ---- the three cases

pub data Step (rows : List Row) (o : Bool) (r : Row) : Table → Type 0 where
  old : (i : ℕ) → i < length rows → same_key r.key (get_or rows i blank_row).key ≡ true → among r.key (keys_of rows) ≡ true
      → Step rows o r (table_of (set rows i (merged (get_or rows i blank_row) r)) (o || over_both (get_or rows i blank_row) r) false)
  new : among r.key (keys_of rows) ≡ false → length rows < most_rows → Step rows o r (table_of (rows ++ (r ∷ [])) o false)
  none : among r.key (keys_of rows) ≡ false → length rows ≡ most_rows → Step rows o r (table_of rows o true)

module _ (rows : List Row) (o : Bool) (r : Row) (s : SoundRows rows) (t : SoundRow r) where
  at : ℕ
  at = first_index (λ x. same_key r.key x.key) rows

  at-is : place_of_key (table_of rows o false) r.key ≡ at
  unfolding at
  at-is = ap (first_index (λ x. same_key r.key x.key)) (rows_back rows)

  found : at < length rows → Step rows o r (put_row (table_of rows o false) at r)
  unfolding at
  found h =
      subst (Step rows o r) (sym (put-old rows o false at r h))
      (old at h (first-hit (λ x. same_key r.key x.key) rows blank_row h)
      (sym (any-key r.key rows) ∙ first-in (λ x. same_key r.key x.key) rows h))

  unfound : length rows ≤ at → among r.key (keys_of rows) ≡ false
  unfolding at
  unfound h = sym (any-key r.key rows) ∙ first_out (λ x. same_key r.key x.key) rows h

  most : at ≤ length rows
  unfolding at
  most = first-most (λ x. same_key r.key x.key) rows

  pub stepped : Step rows o r (with_row (table_of rows o false) r)
  stepped = go (leb most_rows at) (ltb at (length rows)) refl refl
    where
      go : (a b : Bool) → leb most_rows at ≡ a → ltb at (length rows) ≡ b → Step rows o r (with_row (table_of rows o false) r)
      go true b e f =
          let h = leb-true most_rows at e in
          rw (at-is, e) (none (unfound (omega (arith, s.few))) (omega (arith, most, s.few)))
      go false true e f = rw (at-is, e) (found (ltb-true at (length rows) f))
      go false false e f =
          let h = ltb-false at (length rows) f in
          let k = leb-false most_rows at e in
          let is : at ≡ length rows = omega (arith, most) in
          rw (at-is, e) (subst (λ n. Step rows o r (put_row (table_of rows o false) n r)) (sym is)
          (subst (Step rows o r) (sym (put-new rows o false r (omega arith) t.typed)) (new (unfound h) (omega arith))))
