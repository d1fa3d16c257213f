-- A run of calls on bytes is the run of the package on the reports that they hold, so two runs add up as there; and all that is promised of reports
-- through the library. Assumes nothing.
use mathlib.Core.Path.{◌≡◌, refl, sym, ap, ap₂, subst, ◌∙◌}
use mathlib.Core.List.{List, [], ◌∷◌, ◌++◌}
use Prim.Native.Nat.{ℕ, ◌≤◌}
use native.Mathlib.Omega.{arith}
use lib.Dec.{ltb}
use lib.ListN.{length}
use Rattle.answer.specs.Order.{Says, answers, Check, NoneApplies}
use Rattle.answer.proofs.OrderLaws.{order-answers, order-map, order-told, refuses-apart}
use Rattle.frame.specs.Widths.{any_of}
use Rattle.season_reports.specs.Rows.{over_count}
use Rattle.season_reports.specs.Gathering.{gathered}
use Rattle.season_reports.specs.Journals.{contents_of}
use Rattle.season_reports.specs.Reports.{most_rows, rows_in, report_with, journal_rows, journal_order, journal_added, added_by}
use Rattle.season_reports.specs.Running.{go_on, after_journals, season_run}
use Rattle.season_reports.specs.Tables.{SoundRow}
use Rattle.season_reports.specs.declared.Row.{Row}
use Rattle.season_reports.specs.declared.Report.{Report}
use Rattle.season_reports.specs.declared.Adding.{Adding}
use Rattle.season_reports.specs.declared.Adding.TheVariants as adding
use Rattle.season_reports.specs.declared.Added.{Added}
use Rattle.season_reports.specs.declared.JournalReport.{JournalReport}
use Rattle.season_reports.proofs.PlaceLaws.{each_append}
use Rattle.season_reports.proofs.TableLaws.{rows_back, SoundRows, none_rows}
use Rattle.rtcm2_season.specs.Reports.{report_size, report_put}
use Rattle.rtcm2_season.proofs.Back.{put-again}
use Rattle.rtcm2.specs.Answer.{and_then}
use Rattle.rtcm2.specs.Season.{report_held, left_by, adding_by, journal_said, add_said}
use Rattle.promises.proofs.SeasonReports.{first_done, second-done, sum_done}
use Rattle.rtcm2_promises.specs.SeasonBack.{begun, after_calls, AddsUp, LibrarySeason}
use Rattle.rtcm2_promises.proofs.SeasonEntries.{journal-sound}
use Rattle.rtcm2_promises.proofs.SeasonSound.{gathered-sound}
use Rattle.rtcm2_promises.proofs.SeasonBack.{held_back, put_right, journal-right, add_right, row_back, same}

-- ---- a run of calls

-- what adding a journal leaves, where it is not refused
journal-step : (rows : List Row) (j : List ℕ) → SoundRows rows → (journal_added (report_with rows) j).answer ≡ adding.Done
    → ((journal_added (report_with rows) j).report ≡ report_with (gathered (rows ++ journal_rows j))) × SoundRows (gathered (rows ++ journal_rows j))
unfolding journal_added
journal-step rows j s e = (
  ap (λ (x : JournalReport). x.report) (order-answers refuse ready cs none) ∙ ap (λ l. report_with (gathered (l ++ journal_rows j))) (rows_back rows),
  gathered-sound (rows ++ journal_rows j) (each_append SoundRow rows (journal_rows j) s.each (journal-sound j))
      (ap (λ l. ltb most_rows (length (gathered (l ++ journal_rows j)))) (sym (rows_back rows)) ∙ none.1.0)
      (ap (λ l. any_of over_count (gathered (l ++ journal_rows j))) (sym (rows_back rows)) ∙ none.1.1.0),
)
  where
    cs : List Check
    cs = journal_order (report_with rows) j

    refuse : ℕ → JournalReport
    refuse n = record { answer = adding.Refused n; report = report_with rows; used = 0 }

    ready : JournalReport
    ready = record {
      answer = adding.Done;
      report = report_with (gathered (rows_in (report_with rows) ++ journal_rows j));
      used = (contents_of j).used;
    }

    apart : (n : ℕ) → adding.Refused n ≡ adding.Done → ⊥
    apart n q = let z : ◌≡◌ {A = ℕ} 0 1 = cc in omega arith

    none : NoneApplies cs
    none = (order-told adding.Refused adding.Done adding.Done apart cs (sym (order-map (λ (x : JournalReport). x.answer) cs refuse ready) ∙ e)).0

module _ (bs : List ℕ) (room : report_size ≤ length bs) where
  calls-run : (js : List (List ℕ)) (rows : List Row) → SoundRows rows
      → after_calls (report_put (report_with rows) bs) js
      ≡ left_by (after_journals (report_with rows) js).answer (report_put (after_journals (report_with rows) js).report bs)
  unfolding after_journals journal_said
  calls-run [] rows s = refl
  calls-run (j ∷ js) rows s = ap (λ x. and_then x next) said ∙ go (λ more t. calls-run js more t) a.answer refl
    where
      a : JournalReport
      a = journal_added (report_with rows) j

      put : List ℕ
      put = report_put (report_with rows) bs

      next : JournalReport → Says (List ℕ)
      next x = after_calls (report_put x.report put) js

      said : journal_said put j ≡ left_by a.answer a
      said = ap (λ h. and_then h (λ r. left_by (journal_added r j).answer (journal_added r j))) (held_back rows bs s room)

      Again : Type 0
      Again = (more : List Row) → SoundRows more
          → after_calls (report_put (report_with more) bs) js
          ≡ left_by (after_journals (report_with more) js).answer (report_put (after_journals (report_with more) js).report bs)

      go : Again → (t : Adding) → a.answer ≡ t
          → and_then (left_by t a) next
          ≡ left_by (go_on t a.report (after_journals a.report js)).answer (report_put (go_on t a.report (after_journals a.report js)).report bs)
      go again (adding.Refused n) q = refl
      go again adding.Done q =
          let more = journal-step rows j s q in
          ap (λ r. after_calls (report_put r put) js) more.0
          ∙ ap (λ l. after_calls l js) (put-again rows (gathered (rows ++ journal_rows j)) bs s.few more.1.few room)
          ∙ again (gathered (rows ++ journal_rows j)) more.1
          ∙ ap (λ r. left_by (after_journals r js).answer (report_put (after_journals r js).report bs)) (sym more.0)

-- where a run meets no refusal, its report is one of sound rows
pub record Reached (r : Report) : Type 0 where
  pub rows : List Row
  pub sound : SoundRows rows
  pub is : r ≡ report_with rows

run-reached : (js : List (List ℕ)) (rows : List Row) → SoundRows rows → (after_journals (report_with rows) js).answer ≡ adding.Done
    → Reached (after_journals (report_with rows) js).report
unfolding after_journals
run-reached [] rows s e = record { rows = rows; sound = s; is = refl }
run-reached (j ∷ js) rows s e = go (λ more t d. run-reached js more t d) a.answer refl e
  where
    a : JournalReport
    a = journal_added (report_with rows) j

    apart : (n : ℕ) → adding.Refused n ≡ adding.Done → ⊥
    apart n q = let z : ◌≡◌ {A = ℕ} 0 1 = cc in omega arith

    Again : Type 0
    Again = (more : List Row) → SoundRows more → (after_journals (report_with more) js).answer ≡ adding.Done → Reached (after_journals (report_with more) js).report

    go : Again → (t : Adding) → a.answer ≡ t → (go_on t a.report (after_journals a.report js)).answer ≡ adding.Done
        → Reached (go_on t a.report (after_journals a.report js)).report
    go again (adding.Refused n) q d = absurd (apart n d)
    go again adding.Done q d =
        let more = journal-step rows j s q in
        subst (λ (r : Report). Reached (after_journals r js).report) (sym more.0)
        (again (gathered (rows ++ journal_rows j)) more.1 (ap (λ r. (after_journals r js).answer) (sym more.0) ∙ d))

-- ---- two runs added up

-- bytes that hold the reports of two runs, added
add-held : (one other : List ℕ) (a b : Report) → report_held one ≡ answers a → report_held other ≡ answers b → (added_by a b).answer ≡ adding.Done
    → add_said one other ≡ answers (added_by a b)
unfolding add_said
add-held one other a b ea eb d =
    ap (λ h. and_then h (λ x. adding_by (λ (s : Added). s.answer) (added_by x) other)) ea
    ∙ ap (λ h. and_then h (λ y. left_by (added_by a y).answer (added_by a y))) eb
    ∙ ap (λ t. left_by t (added_by a b)) d

adds-up : (first second : List ℕ) → report_size ≤ length first → report_size ≤ length second → (js ks : List (List ℕ)) (all : List ℕ)
    → after_calls (begun first) (js ++ ks) ≡ answers all → AddsUp first second js ks all
adds-up first second room space js ks all e = record {
  one = report_put (season_run js).report first;
  other = report_put (season_run ks).report second;
  sum = added_by (season_run js).report (season_run ks).report;
  one-run = calls-run first room js [] none_rows ∙ ap (λ t. left_by t (report_put (season_run js).report first)) w.0;
  other-run = calls-run second space ks [] none_rows ∙ ap (λ t. left_by t (report_put (season_run ks).report second)) w.1;
  added = add-held (report_put (season_run js).report first) (report_put (season_run ks).report second) (season_run js).report (season_run ks).report
      (reached-held (season_run js).report first room one) (reached-held (season_run ks).report second space other)
      (ap (λ (x : Added). x.answer) w.2 ∙ told-run.0);
  all-of-it =
      ap (λ (x : Added). report_put x.report (report_put (season_run js).report first)) w.2
      ∙ over (season_run js).report (season_run (js ++ ks)).report first room one whole
      ∙ told-run.1;
}
  where
    told-run : ((season_run (js ++ ks)).answer ≡ adding.Done) × (report_put (season_run (js ++ ks)).report first ≡ all)
    told-run = go (season_run (js ++ ks)).answer refl (sym (calls-run first room (js ++ ks) [] none_rows) ∙ e)
      where
        go : (t : Adding) → (season_run (js ++ ks)).answer ≡ t → left_by t (report_put (season_run (js ++ ks)).report first) ≡ answers all
            → ((season_run (js ++ ks)).answer ≡ adding.Done) × (report_put (season_run (js ++ ks)).report first ≡ all)
        go adding.Done q h = (q, same h)
        go (adding.Refused n) q h = absurd (refuses-apart n all h)

    w : ((season_run js).answer ≡ adding.Done) × ((season_run ks).answer ≡ adding.Done)
        × (added_by (season_run js).report (season_run ks).report ≡ season_run (js ++ ks))
    w = (first_done js ks told-run.0, second-done js ks told-run.0, sum_done js ks told-run.0)

    one : Reached (season_run js).report
    one = run-reached js [] none_rows w.0

    other : Reached (season_run ks).report
    other = run-reached ks [] none_rows w.1

    whole : Reached (season_run (js ++ ks)).report
    whole = run-reached (js ++ ks) [] none_rows told-run.0

    reached-held : (r : Report) (bs : List ℕ) → report_size ≤ length bs → Reached r → report_held (report_put r bs) ≡ answers r
    reached-held r bs h q =
        ap (λ x. report_held (report_put x bs)) q.is ∙ held_back q.rows bs q.sound h ∙ ap answers (sym q.is)

    over : (r n : Report) (bs : List ℕ) → report_size ≤ length bs → Reached r → Reached n → report_put n (report_put r bs) ≡ report_put n bs
    over r n bs h p q =
        ap₂ (λ x y. report_put y (report_put x bs)) p.is q.is ∙ put-again p.rows q.rows bs p.sound.few q.sound.few h
        ∙ ap (λ y. report_put y bs) (sym q.is)

pub library-season : LibrarySeason
library-season = record {
  begun-right = λ bs room. put_right [] bs none_rows room;
  journal-right = journal-right;
  add_right = add_right;
  row_back = row_back;
  adds-up = adds-up;
}
