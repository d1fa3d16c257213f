-- One turn of gathering a batch: what is left of it, added to the table as it is now, is the batch added to the table as it was. Assumes nothing.
use mathlib.Core.Path.{◌≡◌, refl, sym, ap, ap₂, subst, ◌∙◌}
use mathlib.Core.Bool.{Bool, true, false, ◌||◌}
use mathlib.Core.List.{List, [], ◌∷◌, ◌++◌, map}
use Prim.Native.Nat.{ℕ, suc, ◌+◌, ◌≤◌, ◌<◌, max}
use native.Mathlib.Numerals.{add-one}
use native.Mathlib.Omega.{arith}
use lib.Dec.{ltb, eqb}
use lib.ListN.{length, take, drop, get_or, set, length-set, length-append, get_or-map}
use lib.Seq.{drop-cons, take-set-lt, take-suc-set, set-get_or}
use borrow.Author.Tests.{le-leb, lt-leb, ltb-true, ltb-false}
use Rattle.season_reports.specs.Rows.{same_key, blank_row}
use Rattle.season_reports.specs.Gathering.{keys_of}
use Rattle.season_reports.specs.Reports.{most_rows, rows_in, report_with}
use Rattle.season_reports.specs.Tables.{code_of, first_index, over_both, merged, put_row, full_table, place_of_key, with_row, with_rows, SoundRow, SoundTable}
use Rattle.season_reports.specs.declared.Row.{Row}
use Rattle.season_reports.specs.declared.table.Table.{Table}
use Rattle.season_reports.proofs.RowLaws.{key-eq}
use Rattle.season_reports.proofs.TotalLaws.{map-append, keys-append}
use Rattle.season_reports.proofs.PlaceLaws.{first_code_lem, first-most, first-hit}
use Rattle.season_reports.proofs.TableLaws.{table_of, rows_back, table_is, put-old, put-new}
use Rattle.season_reports.proofs.SoundLaws.{old-keys, row-sound}

-- a table that takes rows, by its parts
abbrev pub table_with : ℕ → List Row → Bool → Table
table_with used rows over = record { report = record { used = used; rows = rows }; over = over; full = false }

pub record SoFar (t : Table) (batch : List Row) (codes : List ℕ) (now : Table) (i : ℕ) : Type 0 where
  pub same : with_rows t batch ≡ with_rows now (drop i batch)
  pub sound : SoundTable now
  pub long : length codes ≡ most_rows
  pub coded : take now.report.used codes ≡ map code_of (keys_of (rows_in now.report))

-- a full table stays as it is
pub full-stays : (t : Table) (rows : List Row) → t.full ≡ true → with_rows t rows ≡ t
unfolding with_rows
full-stays t [] e = refl
full-stays t (r ∷ rows) e = ap (λ x. with_rows x rows) (rw e) ∙ full-stays t rows e

-- codes of the keys, after a row of a key that is there, and after a new one
codes-old : (codes : List ℕ) (rows : List Row) (i : ℕ) (r : Row) → take (length rows) codes ≡ map code_of (keys_of rows) → i < length rows
    → same_key r.key (get_or rows i blank_row).key ≡ true → take (length rows) (set codes i (code_of r.key)) ≡ map code_of (keys_of rows)
codes-old codes rows i r e h k =
    take-set-lt (length rows) codes i (code_of r.key) h ∙ ap (λ l. set l i (code_of r.key)) e
    ∙ ap (set (map code_of (keys_of rows)) i) there ∙ set-get_or (map code_of (keys_of rows)) i (code_of blank_row.key)
  where
    there : code_of r.key ≡ get_or (map code_of (keys_of rows)) i (code_of blank_row.key)
    there =
        ap code_of (key-eq r.key (get_or rows i blank_row).key k) ∙ ap code_of (sym (get_or-map (λ x. x.key) rows i blank_row))
        ∙ sym (get_or-map code_of (keys_of rows) i blank_row.key)

codes-new : (codes : List ℕ) (rows : List Row) (r : Row) → take (length rows) codes ≡ map code_of (keys_of rows) → length rows < length codes
    → take (suc (length rows)) (set codes (length rows) (code_of r.key)) ≡ map code_of (keys_of (rows ++ (r ∷ [])))
codes-new codes rows r e h =
    take-suc-set codes (length rows) (code_of r.key) h ∙ ap (λ l. l ++ (code_of r.key ∷ [])) e
    ∙ sym (ap (map code_of) (keys-append rows (r ∷ [])) ∙ map-append code_of (keys_of rows) (r.key ∷ []))

module _ (t : Table) (batch : List Row) (codes : List ℕ) (now : Table) (i : ℕ) (r : Row) (s : SoFar t batch codes now i) (open-now : now.full ≡ false)
    (there : i < length batch) (is-r : get_or batch i blank_row ≡ r) (q : SoundRow r) where
  rows : List Row
  rows = rows_in now.report

  -- by codes it is the place of the key
  pub place_is : first_index (eqb (code_of r.key)) (take now.report.used codes) ≡ place_of_key now r.key
  place_is = ap (first_index (eqb (code_of r.key))) s.coded ∙ first_code_lem r (rows_in now.report) q s.sound.rows

  next : with_rows t batch ≡ with_rows (with_row now r) (drop (suc i) batch)
  unfolding with_rows
  next = s.same ∙ ap (with_rows now) (drop-cons batch i blank_row there ∙ ap (λ x. x ∷ drop (suc i) batch) is-r)

  -- no room
  pub turn-full : most_rows ≤ place_of_key now r.key → with_rows t batch ≡ full_table now
  turn-full h =
      next ∙ ap (λ x. with_rows x (drop (suc i) batch)) (rw (open-now, le-leb most_rows (place_of_key now r.key) h))
      ∙ full-stays (full_table now) (drop (suc i) batch) refl

  put_is : place_of_key now r.key < most_rows → with_row now r ≡ put_row now (place_of_key now r.key) r
  put_is h = rw (open-now, lt-leb most_rows (place_of_key now r.key) h)

  table-now : now ≡ table_of rows now.over false
  unfolding rows
  table-now = table_is now s.sound ∙ ap (table_of (rows_in now.report) now.over) open-now

  used-is : now.report.used ≡ length rows
  unfolding rows report_with
  used-is = ap (λ x. x.used) s.sound.whole

  coded-rows : take (length rows) codes ≡ map code_of (keys_of rows)
  unfolding rows
  coded-rows = ap (λ n. take n codes) (sym used-is) ∙ s.coded

  -- the codes of a table by its rows
  codes-table : (xs : List Row) (o : Bool) (cs : List ℕ) (x : Table) → x ≡ table_of xs o false → take (length xs) cs ≡ map code_of (keys_of xs)
      → take x.report.used cs ≡ map code_of (keys_of (rows_in x.report))
  unfolding report_with
  codes-table xs o cs x e h =
      subst (λ y. take y.report.used cs ≡ map code_of (keys_of (rows_in y.report))) (sym e)
      (h ∙ ap (λ l. map code_of (keys_of l)) (sym (rows_back xs)))

  abbrev place : ℕ
  place = first_index (λ x. same_key r.key x.key) (rows_in now.report)

  codes-after : place < most_rows
      → take (put_row now place r).report.used (set codes place (code_of r.key)) ≡ map code_of (keys_of (rows_in (put_row now place r).report))
  unfolding rows
  codes-after h = go (ltb place (length rows)) refl
    where
      most : place ≤ length rows
      most = first-most (λ x. same_key r.key x.key) rows

      long : most_rows ≡ length codes
      long = sym s.long

      go : (b : Bool) → ltb place (length rows) ≡ b
          → take (put_row now place r).report.used (set codes place (code_of r.key)) ≡ map code_of (keys_of (rows_in (put_row now place r).report))
      go true e =
          let l = ltb-true place (length rows) e in
          let hit = first-hit (λ x. same_key r.key x.key) rows blank_row l in
          let put = set rows place (merged (get_or rows place blank_row) r) in
          codes-table put (now.over || over_both (get_or rows place blank_row) r) (set codes place (code_of r.key)) (put_row now place r)
          (ap (λ x. put_row x place r) table-now ∙ put-old rows now.over false place r l)
          (ap (λ n. take n (set codes place (code_of r.key))) (length-set rows place (merged (get_or rows place blank_row) r))
          ∙ codes-old codes rows place r coded-rows l hit ∙ ap (map code_of) (sym (old-keys rows place r hit)))
      go false e =
          let l = ltb-false place (length rows) e in
          let is : place ≡ length rows = omega (arith, most) in
          let room : length rows < most_rows = omega arith in
          codes-table (rows ++ (r ∷ [])) now.over (set codes place (code_of r.key)) (put_row now place r)
          (ap (λ x. put_row x place r) table-now ∙ ap (λ n. put_row (table_of rows now.over false) n r) is ∙ put-new rows now.over false r room q.typed)
          (ap₂ (λ n m. take n (set codes m (code_of r.key))) (length-append rows (r ∷ []) ∙ add-one (length rows)) is
          ∙ codes-new codes rows r coded-rows (omega (arith, s.long)))

  -- the row goes in
  turned : place < most_rows → SoFar t batch (set codes place (code_of r.key)) (put_row now place r) (i + 1)
  turned h = record {
    same = next ∙ ap₂ with_rows (put_is h) (ap (λ j. drop j batch) (sym (add-one i)));
    sound = subst SoundTable (put_is h) (row-sound now r s.sound q);
    long = length-set codes place (code_of r.key) ∙ s.long;
    coded = codes-after h;
  }

  -- and so do the parts that a machine works out one by one
  pub after_turn : (at code u : ℕ) (x : Row) (o : Bool) → at ≡ place → at < most_rows → code ≡ code_of r.key → u ≡ max now.report.used (at + 1)
      → x ≡ merged (get_or now.report.rows at blank_row) r → o ≡ now.over || over_both (get_or now.report.rows at blank_row) r
      → SoFar t batch (set codes at code) (table_with u (set now.report.rows at x) o) (i + 1)
  after_turn at code u x o e h f g k l =
      subst (λ y. SoFar t batch (set codes at code) y (i + 1)) (sym parts)
      (subst (λ c. SoFar t batch (set codes at c) (put_row now at r) (i + 1)) (sym f)
      (subst (λ n. SoFar t batch (set codes n (code_of r.key)) (put_row now n r) (i + 1)) (sym e) (turned (omega arith))))
    where
      parts : table_with u (set now.report.rows at x) o ≡ put_row now at r
      parts =
          ap₂ (λ n y. table_with n (set now.report.rows at y) o) (g ∙ ap (max now.report.used) (add-one at)) k
          ∙ ap₂ (λ b c. record { report = (put_row now at r).report; over = b; full = c }) l (sym open-now)
