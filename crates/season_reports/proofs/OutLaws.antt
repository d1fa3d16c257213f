-- The orders of the calls, check by check: what is refused with 5 and 9, and what a sum says once 5 is passed. Assumes nothing.
use mathlib.Core.Path.{◌≡◌, refl, sym, ap, ap₂, ◌∙◌}
use mathlib.Core.Bool.{Bool, true, false, ◌||◌}
use mathlib.Core.List.{List, ◌++◌}
use Prim.Native.Nat.{ℕ, ◌≤◌, ◌<◌}
use lib.Dec.{ltb}
use lib.ListN.{get_or}
use borrow.Author.Tests.{lt-ltb, le-ltb, le-leb, lt-leb, ltb-false}
use Rattle.answer.specs.Order.{in_order}
use Rattle.answer.proofs.OrderLaws.{order-map}
use Rattle.frame.specs.Widths.{any_of}
use Rattle.frame.proofs.WidthLaws.{both_false}
use Rattle.season_reports.specs.Rows.{blank_row, wrong_sum}
use Rattle.season_reports.specs.Gathering.{keys_of, key_twice, gathered}
use Rattle.season_reports.specs.Journals.{contents_of}
use Rattle.season_reports.specs.Reports.{most_rows, rows_in, report_with, report_out, sum_order, refused_add, added_by, journal_rows, journal_added}
use Rattle.season_reports.specs.Reports.{row_numbered}
use Rattle.season_reports.specs.declared.Report.{Report}
use Rattle.season_reports.specs.declared.Adding.{Adding}
use Rattle.season_reports.specs.declared.Adding.TheVariants.{Done, Refused}
use Rattle.season_reports.specs.declared.Added.{Added}
use Rattle.season_reports.specs.declared.JournalReport.{JournalReport}
use Rattle.season_reports.specs.declared.RowRead.TheVariants as row_read

or-true : (b : Bool) → b || true ≡ true
or-true true = refl
or-true false = refl

or-false : (b : Bool) → b || false ≡ b
or-false true = refl
or-false false = refl

-- ---- 5

module _ (r : Report) where
  pub out-many : most_rows < r.used → report_out r ≡ true
  unfolding report_out
  out-many h = rw (lt-ltb most_rows r.used h)

  pub out-wrong : any_of wrong_sum (rows_in r) ≡ true → report_out r ≡ true
  unfolding report_out
  out-wrong e = ap (λ b. (ltb most_rows r.used || key_twice (keys_of (rows_in r))) || b) e ∙ or-true (ltb most_rows r.used || key_twice (keys_of (rows_in r)))

  pub out-rest : r.used ≤ most_rows → any_of wrong_sum (rows_in r) ≡ false → report_out r ≡ key_twice (keys_of (rows_in r))
  unfolding report_out
  out-rest h e = ap₂ (λ a b. (a || key_twice (keys_of (rows_in r))) || b) (le-ltb most_rows r.used h) e ∙ or-false (key_twice (keys_of (rows_in r)))

  pub out-few : report_out r ≡ false → r.used ≤ most_rows
  unfolding report_out
  out-few e =
      ltb-false most_rows r.used
      (both_false (ltb most_rows r.used) (key_twice (keys_of (rows_in r)))
      (both_false (ltb most_rows r.used || key_twice (keys_of (rows_in r))) (any_of wrong_sum (rows_in r)) e).0).0

-- ---- adding a report

module _ (a b : Report) where
  pub added-first : report_out a ≡ true → added_by a b ≡ refused_add a 5
  unfolding added_by
  added-first e = rw e

  pub added-second : report_out a ≡ false → report_out b ≡ true → added_by a b ≡ refused_add a 5
  unfolding added_by
  added-second e f = rw (e, f)

  pub added-sum : report_out a ≡ false → report_out b ≡ false
      → added_by a b ≡ in_order (sum_order (rows_in a ++ rows_in b)) (refused_add a) (record { answer = Done; report = report_with (gathered (rows_in a ++ rows_in b)) })
  unfolding added_by
  added-sum e f = rw (e, f)

-- ---- adding a journal's bytes

used_by : Adding → ℕ → ℕ
used_by Done n = n
used_by (Refused number) n = 0

with_bytes : ℕ → Added → JournalReport
with_bytes n x = record { answer = x.answer; report = x.report; used = used_by x.answer n }

module _ (a : Report) (bs : List ℕ) where
  pub journal-out : report_out a ≡ true → journal_added a bs ≡ record { answer = Refused 5; report = a; used = 0 }
  unfolding journal_added
  journal-out e = rw e

  module _ (x : Added) (e : report_out a ≡ false)
      (is : x ≡ in_order (sum_order (rows_in a ++ journal_rows bs)) (refused_add a)
      (record { answer = Done; report = report_with (gathered (rows_in a ++ journal_rows bs)) })) where
    said : journal_added a bs ≡ with_bytes (contents_of bs).used x
    unfolding journal_added with_bytes used_by
    said =
        rw e (sym (order-map (with_bytes (contents_of bs).used) (sum_order (rows_in a ++ journal_rows bs)) (refused_add a)
        (record { answer = Done; report = report_with (gathered (rows_in a ++ journal_rows bs)) })))
        ∙ ap (with_bytes (contents_of bs).used) (sym is)

    pub journal-done : x.answer ≡ Done → record { answer = x.answer; report = x.report; used = (contents_of bs).used } ≡ journal_added a bs
    unfolding with_bytes used_by
    journal-done f = ap (λ y. record { answer = x.answer; report = x.report; used = used_by y (contents_of bs).used }) (sym f) ∙ sym said

    pub journal-refused : (n : ℕ) → x.answer ≡ Refused n → record { answer = x.answer; report = x.report; used = 0 } ≡ journal_added a bs
    unfolding with_bytes used_by
    journal-refused n f = ap (λ y. record { answer = x.answer; report = x.report; used = used_by y (contents_of bs).used }) (sym f) ∙ sym said

-- ---- a row

module _ (r : Report) (i : ℕ) where
  pub row-out : report_out r ≡ true → row_numbered r i ≡ row_read.Refused 5
  unfolding row_numbered
  row-out e = rw e

  pub row-past : report_out r ≡ false → r.used ≤ i → row_numbered r i ≡ row_read.Refused 9
  unfolding row_numbered
  row-past e h = rw (e, le-leb r.used i h)

  pub row-there : report_out r ≡ false → i < r.used → row_numbered r i ≡ row_read.At (get_or r.rows i blank_row)
  unfolding row_numbered
  row-there e h = rw (e, lt-leb r.used i h)
