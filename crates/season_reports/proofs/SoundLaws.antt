-- Tables stay sound, row by row, and rows added in two lists are added in one. Assumes nothing.
use mathlib.Core.Path.{◌≡◌, refl, sym, ap, subst, ◌∙◌}
use mathlib.Core.Bool.{Bool, true, false, cond, ◌||◌}
use mathlib.Core.List.{List, [], ◌∷◌, ◌++◌}
use Prim.Native.Nat.{ℕ, zero, suc, ◌-◌, ◌<◌}
use native.Mathlib.Omega.{arith}
use lib.Dec.{leb, ltb}
use lib.ListN.{length, get_or, set, replicate, length-append, length-set, get_or-eq_default}
use lib.Seq.{map-set_same}
use borrow.Author.Tests.{ltb-true, ltb-false}
use Rattle.record_fields.specs.Coding.{Each}
use Rattle.season_reports.specs.Rows.{same_key, blank_row, together}
use Rattle.season_reports.specs.Gathering.{keys_of, key_twice}
use Rattle.season_reports.specs.Reports.{most_rows, rows_in, report_with}
use Rattle.season_reports.specs.Tables.{over_both, merged, put_row, full_table, place_of_key, with_row, with_rows, no_table, SoundRow, SoundTable}
use Rattle.season_reports.specs.declared.Row.{Row}
use Rattle.season_reports.specs.declared.table.Table.{Table}
use Rattle.season_reports.proofs.RowLaws.{key-eq, key-sym}
use Rattle.season_reports.proofs.RightLaws.{merged-sound, blank-sound}
use Rattle.season_reports.proofs.SeenLaws.{among, twice-snoc}
use Rattle.season_reports.proofs.TotalLaws.{keys-append}
use Rattle.season_reports.proofs.PlaceLaws.{each_append, each_set, each_at}
use Rattle.season_reports.proofs.TableLaws.{table_of, SoundRows, table_is, table-rows, table-sound, none_rows, Step, old, new, none, stepped}

-- ---- what is sound stays so

merged-key : (a b : Row) → a.key ≡ b.key → (merged a b).key ≡ a.key
unfolding together
merged-key a b e = go (over_both a b)
  where
    go : (t : Bool) → (cond t a (together a b)).key ≡ a.key
    go true = refl
    go false = sym e

-- the keys of the rows are as they were
pub old-keys : (rows : List Row) (i : ℕ) (r : Row) → same_key r.key (get_or rows i blank_row).key ≡ true
    → keys_of (set rows i (merged (get_or rows i blank_row) r)) ≡ keys_of rows
old-keys rows i r e =
    map-set_same (λ x. x.key) rows i (merged (get_or rows i blank_row) r) blank_row
    (merged-key (get_or rows i blank_row) r (sym (key-eq r.key (get_or rows i blank_row).key e)))

pub old-sound : (rows : List Row) (i : ℕ) (r : Row) → SoundRows rows → SoundRow r → i < length rows
    → same_key r.key (get_or rows i blank_row).key ≡ true → SoundRows (set rows i (merged (get_or rows i blank_row) r))
old-sound rows i r s t h e = record {
  few = rw (length-set rows i (merged (get_or rows i blank_row) r)) s.few;
  each = each_set SoundRow rows i _ s.each (merged-sound (get_or rows i blank_row) r (each_at SoundRow rows i blank_row s.each h) t);
  apart = ap key_twice (old-keys rows i r e) ∙ s.apart;
}

pub new-sound : (rows : List Row) (r : Row) → SoundRows rows → SoundRow r → length rows < most_rows → among r.key (keys_of rows) ≡ false
    → SoundRows (rows ++ (r ∷ []))
new-sound rows r s t h e = record {
  few = omega (arith, length-append rows (r ∷ []));
  each = each_append SoundRow rows (r ∷ []) s.each (t, tt);
  apart =
      ap key_twice (keys-append rows (r ∷ [])) ∙ twice-snoc same_key key-sym (keys_of rows) r.key ∙ ap (λ b. b || among r.key (keys_of rows)) s.apart ∙ e;
}

step-sound : (rows : List Row) (o : Bool) (r : Row) (t : Table) → SoundRows rows → SoundRow r → Step rows o r t → SoundTable t
step-sound rows o r t s q (old i h e a) = table-sound _ _ false (old-sound rows i r s q h e)
step-sound rows o r t s q (new e h) = table-sound (rows ++ (r ∷ [])) o false (new-sound rows r s q h e)
step-sound rows o r t s q (none e h) = table-sound rows o true s

full-row : (t : Table) (r : Row) → t.full ≡ true → with_row t r ≡ t
full-row t r e = ap (λ f. cond f t (cond (leb most_rows (place_of_key t r.key)) (full_table t) (put_row t (place_of_key t r.key) r))) e

pub row-sound : (t : Table) (r : Row) → SoundTable t → SoundRow r → SoundTable (with_row t r)
row-sound t r s q = go t.full refl
  where
    go : (f : Bool) → t.full ≡ f → SoundTable (with_row t r)
    go true e = subst SoundTable (sym (full-row t r e)) s
    go false e =
        let is : t ≡ table_of (rows_in t.report) t.over false = table_is t s ∙ ap (table_of (rows_in t.report) t.over) e in
        subst (λ x. SoundTable (with_row x r)) (sym is)
        (step-sound (rows_in t.report) t.over r _ (table-rows t s) q (stepped (rows_in t.report) t.over r (table-rows t s) q))

pub rows-sound : (t : Table) (rows : List Row) → SoundTable t → Each SoundRow rows → SoundTable (with_rows t rows)
unfolding with_rows
rows-sound t [] s q = s
rows-sound t (r ∷ rows) s q = rows-sound (with_row t r) rows (row-sound t r s q.0) q.1

pub rows_append : (t : Table) (xs ys : List Row) → with_rows t (xs ++ ys) ≡ with_rows (with_rows t xs) ys
unfolding with_rows
rows_append t [] ys = refl
rows_append t (r ∷ xs) ys = rows_append (with_row t r) xs ys

pub none-sound : SoundTable no_table
unfolding no_table
none-sound = table-sound [] false false none_rows

-- any row of the array, the blank ones too
each-blank : (n : ℕ) → Each SoundRow (replicate n blank_row)
each-blank zero = tt
each-blank (suc n) = (blank-sound, each-blank n)

pub any-sound : (t : Table) (i : ℕ) → SoundTable t → SoundRow (get_or t.report.rows i blank_row)
unfolding report_with
any-sound t i s = go (ltb i (length t.report.rows)) refl
  where
    all : Each SoundRow t.report.rows
    all =
        let n = most_rows - length (rows_in t.report) in
        subst (λ r. Each SoundRow r.rows) (sym s.whole)
        (each_append SoundRow (rows_in t.report) (replicate n blank_row) s.rows (each-blank n))

    go : (b : Bool) → ltb i (length t.report.rows) ≡ b → SoundRow (get_or t.report.rows i blank_row)
    go true e = each_at SoundRow t.report.rows i blank_row all (ltb-true i (length t.report.rows) e)
    go false e = subst SoundRow (sym (get_or-eq_default t.report.rows blank_row (ltb-false i (length t.report.rows) e))) blank-sound
