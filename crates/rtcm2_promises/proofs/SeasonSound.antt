-- Rows of reports that calls on bytes see and leave: those that are read have their types, those of a report that is not refused with 5 are sound, so is
-- what they gather to, and a report of such rows is never refused with 5. Assumes nothing.
use mathlib.Core.Path.{◌≡◌, refl, sym, ap₂, subst, ◌∙◌}
use mathlib.Core.Bool.{Bool, true, false, true≢false, cond, ◌||◌}
use mathlib.Core.List.{List, [], ◌∷◌}
use Prim.Native.Nat.{ℕ, zero, suc, ◌%◌, ◌^◌}
use native.Mathlib.Nat.{mod-lt}
use native.Mathlib.Omega.{arith}
use lib.Dec.{ltb, eqb}
use lib.Pow.{pow_pos}
use lib.ListN.{length, take, drop, get_or}
use borrow.Author.Tests.{le-ltb, ltb-false}
use Rattle.bits.proofs.SignedLaws.{mag-signed}
use Rattle.frame.specs.Widths.{any_of}
use Rattle.frame.proofs.WidthLaws.{both_false}
use Rattle.record_fields.specs.Coding.{Each}
use Rattle.season_reports.specs.Rows.{wrong_sum, over_count}
use Rattle.season_reports.specs.Gathering.{keys_of, key_twice, gathered}
use Rattle.season_reports.specs.Reports.{most_rows, rows_in, report_with, report_out}
use Rattle.season_reports.specs.Tables.{with_rows, no_table, EndsTyped, TypedRow, SoundRow}
use Rattle.season_reports.specs.declared.Row.{Row}
use Rattle.season_reports.specs.declared.Report.{Report}
use Rattle.season_reports.specs.declared.Extremes.{Extremes}
use Rattle.season_reports.specs.declared.Extremes.TheVariants.{Absent, Present}
use Rattle.season_reports.proofs.RightLaws.{sum_fits}
use Rattle.season_reports.proofs.TableLaws.{rows_back, SoundRows}
use Rattle.season_reports.proofs.EndLaws.{Running, RunsTo, run-rows, run-start}
use Rattle.rtcm2_rows.specs.Rows.{entries_from}
use Rattle.rtcm2_rows.specs.Sizes.{sized_in}
use Rattle.rtcm2_season.specs.Rows.{sizes, extremes_with, row_with, EndsFit, RowFits, report_row}
use Rattle.rtcm2_season.specs.Reports.{used_in, holds_report, report_of, report_in}

-- ---- rows that are read have their types

ends-typed : (present least largest : ℕ) → EndsTyped (extremes_with present least largest)
ends-typed present least largest = go (eqb present 0)
  where
    go : (b : Bool) → EndsTyped (cond b Absent (extremes_with 1 least largest))
    go true = tt
    go false = (mag-signed 31 (least % 2 ^ 32) (mod-lt least (pow_pos 32)), mag-signed 31 (largest % 2 ^ 32) (mod-lt largest (pow_pos 32)))

row_typed : (ns : List ℕ) → TypedRow (row_with ns)
unfolding row_with
row_typed ns = record {
  station = mod-lt (get_or ns 1 0) (pow_pos 16);
  satellite = mod-lt (get_or ns 2 0) (pow_pos 8);
  usable = mod-lt (get_or ns 3 0) (pow_pos 32);
  stops = mod-lt (get_or ns 4 0) (pow_pos 32);
  ends = ends-typed (get_or ns 5 0) (get_or ns 6 0) (get_or ns 7 0);
}

all_typed : (n : ℕ) (bs : List ℕ) → Each TypedRow (entries_from report_row n bs)
unfolding entries_from
all_typed zero bs = tt
all_typed (suc n) bs = (row_typed (sized_in sizes (take 29 bs)), all_typed n (drop 29 bs))

pub rows-typed : (bs : List ℕ) → Each TypedRow (rows_in (report_in bs))
unfolding report_in report_of
rows-typed bs = go (holds_report bs)
  where
    go : (b : Bool) → Each TypedRow (rows_in (cond b (report_of bs) (report_with [])))
    go true = subst (Each TypedRow) (sym (rows_back (entries_from report_row (used_in bs) (drop 4 bs)))) (all_typed (used_in bs) (drop 4 bs))
    go false = subst (Each TypedRow) (sym (rows_back [])) tt

-- ---- rows of a report that is not refused with 5 are sound, and so are what they gather to

each-sound : (rows : List Row) → Each TypedRow rows → any_of wrong_sum rows ≡ false → Each SoundRow rows
each-sound [] t e = tt
each-sound (r ∷ rows) t e =
    let b = both_false (wrong_sum r) (any_of wrong_sum rows) e in
    (record { typed = t.0; right = b.0 }, each-sound rows t.1 b.1)

pub report-sound : (r : Report) → Each TypedRow (rows_in r) → report_out r ≡ false → Each SoundRow (rows_in r)
unfolding report_out
report-sound r t e =
    each-sound (rows_in r) t (both_false (ltb most_rows r.used || key_twice (keys_of (rows_in r))) (any_of wrong_sum (rows_in r)) e).1

pub gathered-sound : (rows : List Row) → Each SoundRow rows → ltb most_rows (length (gathered rows)) ≡ false → any_of over_count (gathered rows) ≡ false
    → SoundRows (gathered rows)
gathered-sound rows q few clear = go s.full s.over s.run
  where
    s : RunsTo rows (with_rows no_table rows)
    s = run-rows [] no_table rows run-start q

    go : (f o : Bool) → Running rows s.rows o f → SoundRows (gathered rows)
    go true o n = absurd (omega (arith, n.filled refl, ltb-false most_rows (length (gathered rows)) few))
    go false true n = absurd (true≢false (sym (n.passed refl) ∙ clear))
    go false false n = subst SoundRows (n.totals refl refl) n.sound

-- ---- such rows are right, and come back

none-wrong : (rows : List Row) → Each SoundRow rows → any_of wrong_sum rows ≡ false
none-wrong [] q = refl
none-wrong (r ∷ rows) q = rw q.0.right (none-wrong rows q.1)

used-in : (rows : List Row) → (report_with rows).used ≡ length rows
unfolding report_with
used-in rows = refl

pub report-right : (rows : List Row) → SoundRows rows → report_out (report_with rows) ≡ false
unfolding report_out
report-right rows s =
    ap₂ (λ n rs. ltb most_rows n || key_twice (keys_of rs) || any_of wrong_sum rs) (used-in rows) (rows_back rows)
    ∙ rw (le-ltb most_rows (length rows) s.few, s.apart) (none-wrong rows s.each)

pub row_fits : (r : Row) → SoundRow r → RowFits r
row_fits r q = record {
  station = q.typed.station;
  satellite = q.typed.satellite;
  usable = q.typed.usable;
  stops = q.typed.stops;
  extremes = ends r.extremes q.typed.ends;
  sum = sum_fits r q;
}
  where
    ends : (e : Extremes) → EndsTyped e → EndsFit e
    ends Absent h = h
    ends (Present least largest) h = h

pub all_fit : (rows : List Row) → Each SoundRow rows → Each RowFits rows
all_fit [] q = tt
all_fit (r ∷ rows) q = (row_fits r q.0, all_fit rows q.1)
