-- What the calls on reports of a season say, by what adding and reading a row answer. Assumes nothing.
use mathlib.Core.Path.{◌≡◌, sym, ap, ◌∙◌}
use mathlib.Core.Bool.{Bool, true, false, cond}
use mathlib.Core.List.{List, []}
use Prim.Native.Nat.{ℕ, ◌≤◌, ◌<◌}
use lib.ListN.{length}
use borrow.Author.Tests.{lt-ltb, le-ltb}
use Rattle.answer.specs.Order.{Says, refuses, answers}
use Rattle.season_reports.specs.Reports.{report_with, added_by, row_numbered, says_row}
use Rattle.season_reports.specs.declared.Row.{Row}
use Rattle.season_reports.specs.declared.Report.{Report}
use Rattle.season_reports.specs.declared.Adding.{Adding}
use Rattle.season_reports.specs.declared.Adding.TheVariants.{Done, Refused}
use Rattle.season_reports.specs.declared.Added.{Added}
use Rattle.season_reports.specs.declared.RowRead.{RowRead}
use Rattle.rtcm2_season.specs.Reports.{report_size, holds_report, report_in}
use Rattle.rtcm2.specs.Answer.{and_then}
use Rattle.rtcm2.specs.Season.{left_by, adding_by, season_started, add_said, row_said}

-- ---- START

pub start-short : (report : List ℕ) → length report < report_size → season_started report ≡ refuses 13
unfolding season_started
start-short report h = rw (lt-ltb (length report) report_size h)

pub start-done : (report : List ℕ) → report_size ≤ length report → season_started report ≡ answers (report_with [])
unfolding season_started
start-done report h = rw (le-ltb (length report) report_size h)

-- ---- adding to the report that is held

module _ {A : Type 0} (answer : A → Adding) (call : Report → A) (bs : List ℕ) where
  abbrev by : Bool → Says A
  by b = and_then (cond b (answers (report_in bs)) (refuses 5)) (λ r. left_by (answer (call r)) (call r))

  pub adding-none : holds_report bs ≡ false → adding_by answer call bs ≡ refuses 5
  adding-none h = ap by h

  -- x is what the call left
  module _ (h : holds_report bs ≡ true) {x : A} (e : x ≡ call (report_in bs)) where
    adding-left : adding_by answer call bs ≡ left_by (answer x) x
    adding-left = ap by h ∙ ap (λ y. left_by (answer y) y) (sym e)

    pub adding-refused : {n : ℕ} → answer x ≡ Refused n → adding_by answer call bs ≡ refuses n
    adding-refused a = adding-left ∙ ap (λ y. left_by y x) a

    pub adding-done : answer x ≡ Done → adding_by answer call bs ≡ answers x
    adding-done a = adding-left ∙ ap (λ y. left_by y x) a

-- ---- one report to another

module _ (first second : List ℕ) where
  abbrev both : Bool → Says Added
  both b = and_then (cond b (answers (report_in first)) (refuses 5)) (λ a. adding_by (λ (x : Added). x.answer) (added_by a) second)

  pub add_none : holds_report first ≡ false → add_said first second ≡ refuses 5
  unfolding add_said
  add_none h = ap both h

  pub add-held : holds_report first ≡ true → add_said first second ≡ adding_by (λ (x : Added). x.answer) (added_by (report_in first)) second
  unfolding add_said
  add-held h = ap both h

-- ---- a row

module _ (report : List ℕ) (index : ℕ) where
  abbrev told : Bool → Says Row
  told b = and_then (cond b (answers (report_in report)) (refuses 5)) (λ r. says_row (row_numbered r index))

  pub row-none : holds_report report ≡ false → refuses 5 ≡ row_said report index
  unfolding row_said
  row-none h = sym (ap told h)

  pub row-held : holds_report report ≡ true → {r : Report} {x : RowRead} → r ≡ report_in report → x ≡ row_numbered r index → says_row x ≡ row_said report index
  unfolding row_said
  row-held h er ex = ap says_row (ex ∙ ap (λ r. row_numbered r index) er) ∙ sym (ap told h)
